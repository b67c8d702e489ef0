use Rattle.std.proofs.Common.{◌≡◌, ◌<◌, not, filter, length, rules, ap, arith}
use Rattle.std.proofs.lemmas.Fn.{filter_same}
use Rattle.timer_wheel.specs.Rows.{is_of}
use Rattle.timer_wheel.proofs.Rows.{filter-fewer}
use Rattle.timer_wheel.proofs.list.remove.Goals as goal

pub returns-clause-items : goal.returns-clause-items
returns-clause-items c = filter_same _ _ _ (λ x b f' k. search rules) _ _ c.retain.ensures.filtered

pub returns-clause-fewer : goal.returns-clause-fewer
returns-clause-fewer c h =
    let e : c.retain.new.self.items ≡ filter (λ x. not (is_of c.args.owner c.args.source x)) c.args.items.now.items = filter_same _ _ _ (λ x b f' k. search rules) _ _ c.retain.ensures.filtered in
    let n : length c.retain.new.self.items ≡ length (filter (λ x. not (is_of c.args.owner c.args.source x)) c.args.items.now.items) = ap length e in
    let f : length (filter (λ x. not (is_of c.args.owner c.args.source x)) c.args.items.now.items) < length c.args.items.now.items = filter-fewer (is_of c.args.owner c.args.source) c.args.items.now.items h in
    omega arith
