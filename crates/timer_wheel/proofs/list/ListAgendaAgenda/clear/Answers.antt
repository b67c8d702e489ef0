use Rattle.timer_wheel.proofs.Rows.{above-removed, removed-here, removed-there}
use Rattle.timer_wheel.proofs.list.ListAgendaAgenda.clear.Goals as goal

pub invariant_of-self : goal.invariant_of-self
invariant_of-self c = rw c.remove.ensures.items (above-removed _ _ _ _ c.self.invariant)

pub returns-clause-cleared : goal.returns-clause-cleared
returns-clause-cleared c = rw (c.remove.ensures.items, ← c.self.view_is) (removed-here _ _ _)

pub returns-clause-others : goal.returns-clause-others
returns-clause-others c o ne = rw (c.remove.ensures.items, ← c.self.view_is) (removed-there _ _ _ o ne)
