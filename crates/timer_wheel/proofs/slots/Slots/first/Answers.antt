use Rattle.timer_wheel.proofs.SlotFacts.{first_slot, no_slot}
use Rattle.timer_wheel.proofs.slots.Slots.first.Goals as goal

pub returns-clause-first : goal.returns-clause-first
returns-clause-first c =
    rw (← c.self.view_is) (first_slot c.self.inside.keys c.self.inside.marks c.self.invariant c.first.result c.first.ensures.within c.first.ensures.first)

pub returns-clause-none : goal.returns-clause-none
returns-clause-none c =
    rw (← c.self.view_is) (no_slot c.self.inside.keys c.self.inside.marks c.self.invariant c.first.result c.first.ensures.none)
