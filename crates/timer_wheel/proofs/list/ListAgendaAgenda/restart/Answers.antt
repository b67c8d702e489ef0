use Rattle.std.proofs.Common.{◌≡◌, Some, None, sym, ap, ◌∙◌}
use Rattle.timer_wheel.specs.Rows.{Row, row_of}
use Rattle.timer_wheel.proofs.Rows.{rows-nil}
use Rattle.timer_wheel.proofs.list.ListAgendaAgenda.restart.Goals as goal

pub invariant_of-self : goal.invariant_of-self
invariant_of-self c o s d h =
    let gone : None ≡ Some d = sym (ap (λ (w : Row). w s) (rows-nil o)) ∙ ap (λ es. row_of es o s) (sym c.clear.ensures.items) ∙ h in absurd (cc)

pub returns-clause-empty : goal.returns-clause-empty
returns-clause-empty c o = c.rewind.ensures.entries o ∙ ap (λ es. row_of es o) c.clear.ensures.items ∙ rows-nil o
