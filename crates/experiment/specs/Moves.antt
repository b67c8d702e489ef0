-- The effect of an event of an experiment, by its result.
use Rattle.std.specs.Prelude.{◌≡◌, ℕ, ◌+◌, ◌<◌, ◌⊎◌, Bool, true, false, Option, Some, None, IsSome, [], ◌∷◌}
use Rattle.emu_model.specs.declared.commands.Timed.{Timed}
use Rattle.emu_model.specs.declared.sources.Due.{Due}
use Rattle.emu_model.specs.declared.records.Ending.{Ending}
use Rattle.emu_model.specs.declared.records.Ending.TheVariants.{Spent, Halted as HaltedSo}
use Rattle.emu_model.specs.declared.records.Record.TheVariants.{StepsSpent}
use Rattle.emu_model.specs.Step.{step, take_due, count_step}
use Rattle.experiment.specs.Waits.{step_before, IsSettled}
use Rattle.packet_store.specs.Pocket.{Pocket}
use Rattle.network.specs.Kept.{KeptNet}
use Rattle.network.specs.Changes.{Notes}
use Rattle.experiment.specs.declared.experiment.Event.{Event}
use Rattle.experiment.specs.declared.experiment.Event.TheVariants.{Ran, Ended, Halted, Still}
use Rattle.experiment.specs.Kept.{KeptExperiment, view, shown_ending}

-- one step of the definitions was made
pub record IsStep (p : Pocket) (old : KeptExperiment) (q : Pocket) (new : KeptExperiment) : Type 0 where
  pub stepped : view q new ≡ step (view p old)
  pub counted : new.steps ≡ old.steps + 1
  pub going : old.ending ≡ None

-- no step was made, because memory ran out
pub record Halts (p : Pocket) (old : KeptExperiment) (q : Pocket) (new : KeptExperiment) : Type 0 where
  pub shown : view q new ≡ view p old
  pub pocket : q ≡ p
  pub ending : new.ending ≡ Some HaltedSo

abbrev pub Makes : Event → Pocket → KeptExperiment → Pocket → KeptExperiment → Type 0
Makes Ran p old q new = IsStep p old q new × (new.ending ≡ None)
Makes Ended p old q new = IsStep p old q new × IsSome (shown_ending new.ending)
Makes Halted p old q new = Halts p old q new
Makes Still p old q new = (new ≡ old) × (q ≡ p) × ((old.next ≡ None) ⊎ IsSome old.ending)

-- the first event that is due before a time occurred
pub record IsPassed (t : ℕ) (p : Pocket) (old : KeptExperiment) (q : Pocket) (new : KeptExperiment) : Type 0 where
  pub passed : view q new ≡ step_before t (view p old)
  pub counted : new.steps ≡ old.steps + 1
  pub going : old.ending ≡ None

-- a time after that of the event, if one occurred
abbrev pub IsPast : Event → ℕ → ℕ → Type 0
IsPast Ran clock u = clock < u
IsPast Ended clock u = clock < u
IsPast Halted clock u = Unit {0}
IsPast Still clock u = Unit {0}

-- the first event due before a time occurred, or could not for lack of memory; or none is due, or the experiment was over
abbrev pub Passes : ℕ → Event → Pocket → KeptExperiment → Pocket → KeptExperiment → Type 0
Passes t Ran p old q new = IsPassed t p old q new × (new.ending ≡ None)
Passes t Ended p old q new = IsPassed t p old q new × IsSome (shown_ending new.ending)
Passes t Halted p old q new = Halts p old q new
Passes t Still p old q new = (new ≡ old) × (q ≡ p) × (IsSettled t (view p old) ⊎ IsSome old.ending)

-- the step whose event has this due, where `c` is the next command
pub record Steps (d : Due) (c : Timed) (p : Pocket) (old : KeptExperiment) (q : Pocket) (new : KeptExperiment) : Type 0 where
  pub stepped : view q new ≡ count_step (take_due d c [] (view p old))
  pub counted : new.steps ≡ old.steps + 1
  pub ending : IsSome new.ending → IsSome (shown_ending new.ending)

-- how a step ends: as its event determines, or because it was the last step of the budget
abbrev pub Closes : Option Ending → Bool → ℕ → KeptNet → KeptNet → Option Ending → Type 0
Closes (Some e) last now old new result = (new ≡ old) × (result ≡ Some e)
Closes None true now old new result = Notes (StepsSpent now ∷ []) old new × (result ≡ Some Spent)
Closes None false now old new result = (new ≡ old) × (result ≡ None)
