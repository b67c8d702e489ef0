use Rattle.std.proofs.Common.{◌<◌, ◌≤◌, ◌∙◌, length, sym, ap, arith, Some}
use Rattle.flow_mask.proofs.Numbers.{known_instance, next_instance, no_instance}
use Rattle.flow_mask.proofs.instances.Instances.number_for.Goals as goal

pub returns-in-Some : goal.returns-in-Some
returns-in-Some c = sym (known_instance c.args.self.now.ids c.args.id c.in-Some.index (sym c.in-Some.ensures.index))

pub returns-then-next-eq-MOST : goal.returns-then-next-eq-MOST
returns-then-next-eq-MOST c =
    let many : 256 ≤ length c.args.self.now.ids = omega (arith, c.len-next.ensures.len, c.if-next-eq-MOST.true) in
    sym (no_instance c.args.self.now.ids c.args.id (sym c.in_default.ensures.index) many)

pub returns : goal.returns
returns c =
    let few : length c.args.self.now.ids < 256 = omega (arith, c.len-next.ensures.len, c.len-next.ensures.most, c.if-next-eq-MOST.false) in
    sym (next_instance c.args.self.now.ids c.args.id (sym c.in_default.ensures.index) few ∙ ap (λ n. Some n) (sym c.len-next.ensures.len))
