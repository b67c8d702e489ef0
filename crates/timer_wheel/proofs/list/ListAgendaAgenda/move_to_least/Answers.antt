use Rattle.std.proofs.Common.{◌≡◌, ◌≤◌, Some, None}
use Rattle.timer_wheel.specs.Rows.{least_of}
use Rattle.timer_wheel.proofs.Rows.{row_of-none, above-least, least-was, least-first}
use Rattle.timer_wheel.proofs.list.ListAgendaAgenda.move_to_least.Goals as goal

pub returns-in_err-entry-clause-none : goal.returns-in_err-entry-clause-none
returns-in_err-entry-clause-none c =
    let l : least_of c.self.inside.items.items ≡ None = cc (c.in_err-entry.ensures, c.deref.ensures.value) in
    rw (c.from_residual.ensures, ← c.self.view_is) (row_of-none c.self.inside.items.items l)

pub invariant_of-self : goal.invariant_of-self
invariant_of-self c =
    let l : least_of c.self.inside.items.items ≡ Some c.in_ok-entry.entry = cc (c.in_ok-entry.ensures, c.deref.ensures.value) in
    above-least c.self.inside.items.items c.in_ok-entry.entry l

pub returns-clause-was : goal.returns-clause-was
returns-clause-was c =
    let l : least_of c.self.inside.items.items ≡ Some c.in_ok-entry.entry = cc (c.in_ok-entry.ensures, c.deref.ensures.value) in
    rw (← c.self.view_is) (least-was c.self.inside.items.items c.in_ok-entry.entry l)

pub returns-clause-least : goal.returns-clause-least
returns-clause-least c =
    let l : least_of c.self.inside.items.items ≡ Some c.in_ok-entry.entry = cc (c.in_ok-entry.ensures, c.deref.ensures.value) in
    rw (← c.self.view_is) (least-first c.self.inside.items.items c.in_ok-entry.entry l)

pub returns-clause-rises : goal.returns-clause-rises
returns-clause-rises c =
    let l : least_of c.self.inside.items.items ≡ Some c.in_ok-entry.entry = cc (c.in_ok-entry.ensures, c.deref.ensures.value) in
    let low : c.self.inside.clock ≤ c.in_ok-entry.entry.due = c.self.invariant _ _ _ (least-was c.self.inside.items.items c.in_ok-entry.entry l) in
    rw (← c.self.view_is) low
