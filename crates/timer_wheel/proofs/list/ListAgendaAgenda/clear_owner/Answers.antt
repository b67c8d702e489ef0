use Rattle.std.proofs.Common.{◌≡◌, ◌==◌, not, filter, rules}
use Rattle.std.proofs.lemmas.Fn.{filter_same}
use Rattle.timer_wheel.specs.declared.Entry.{Entry}
use Rattle.timer_wheel.proofs.Rows.{above-owner_cleared, owner_cleared-here, owner_cleared-there}
use Rattle.timer_wheel.proofs.list.ListAgendaAgenda.clear_owner.Goals as goal

pub invariant_of-self : goal.invariant_of-self
invariant_of-self c =
    let kept : c.retain.new.self.items ≡ filter (λ (e : Entry). not (e.owner == c.args.owner)) c.self.inside.items.items =
    filter_same _ _ _ (λ x b f' k. search rules) _ _ c.retain.ensures.filtered in
    rw kept (above-owner_cleared _ _ _ c.self.invariant)

pub returns-clause-cleared : goal.returns-clause-cleared
returns-clause-cleared c =
    let kept : c.retain.new.self.items ≡ filter (λ (e : Entry). not (e.owner == c.args.owner)) c.self.inside.items.items =
    filter_same _ _ _ (λ x b f' k. search rules) _ _ c.retain.ensures.filtered in
    rw kept (owner_cleared-here c.self.inside.items.items c.args.owner)

pub returns-clause-others : goal.returns-clause-others
returns-clause-others c o ne =
    let kept : c.retain.new.self.items ≡ filter (λ (e : Entry). not (e.owner == c.args.owner)) c.self.inside.items.items =
    filter_same _ _ _ (λ x b f' k. search rules) _ _ c.retain.ensures.filtered in
    rw (kept, ← c.self.view_is) (owner_cleared-there _ _ o ne)
