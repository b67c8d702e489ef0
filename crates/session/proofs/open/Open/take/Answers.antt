use Rattle.std.proofs.Common.{◌≡◌, ℕ, List, [], ◌∷◌, ◌++◌, ap, subst, ◌∙◌}
use Rattle.std.specs.Prelude.{IfOk}
use Rattle.emu_model.specs.declared.commands.Timed.{Timed}
use Rattle.session.specs.Effects.{ObeysIn}
use Rattle.session.specs.Faults.{Answers, command_fault}
use Rattle.session.specs.Opens.{KeptOpen, IsFault, Tells}
use Rattle.session.specs.Tracing.{command_as}
use Rattle.session.proofs.open.Open.take.Goals as goal

pub returns-clause-told : goal.returns-clause-told
returns-clause-told c =
    subst (λ (t : Timed). IfOk c.take_as_is.result (λ a. (IsFault a → ⊥) → (bytes : List ℕ)
    × (c.take_as_is.new.out.items ≡ c.args.out.now.items ++ bytes) × Tells (t ∷ []) bytes c.args.self.now c.take_as_is.new.self))
    (c.command_as-obeyed.ensures.value ∙ ap (λ (o : KeptOpen). command_as o.traced c.args.command.now) c.self.view_is)
    c.take_as_is.ensures.told

pub returns-clause-fault : goal.returns-clause-fault
returns-clause-fault c =
    subst (λ (m : ℕ). IfOk c.take_as_is.result (λ a. Answers (command_fault c.args.self.now m) a
    ((c.take_as_is.new.self ≡ c.args.self.now) × (c.take_as_is.new.out.items ≡ c.args.out.now.items))))
    c.command_as-obeyed.ensures.moment c.take_as_is.ensures.fault

pub returns-clause-obeys : goal.returns-clause-obeys
returns-clause-obeys c =
    subst (λ (t : Timed). IfOk c.take_as_is.result (λ a. (IsFault a → ⊥) → (bytes : List ℕ)
    × (c.take_as_is.new.out.items ≡ c.args.out.now.items ++ bytes) × ObeysIn c.args.self.now.phase t bytes a c.args.self.now c.take_as_is.new.self))
    (c.command_as-obeyed.ensures.value ∙ ap (λ (o : KeptOpen). command_as o.traced c.args.command.now) c.self.view_is)
    c.take_as_is.ensures.obeys
