-- The effect of processing an experiment's events until nothing more can be done.
use Rattle.std.specs.Prelude.{◌≡◌, ◌⊎◌, ◌≤◌, List, [], ◌++◌, None, IsSome}
use Rattle.emu_model.specs.declared.commands.Timed.{Timed}
use Rattle.packet_store.specs.Pocket.{Pocket}
use Rattle.experiment.specs.Kept.{KeptExperiment, IsHousedIn, shown_ending}
use Rattle.experiment.specs.Written.{Archived, IsArchived}

-- the experiment has ended, or waits for its next command
abbrev pub IsAtRest : KeptExperiment → Type 0
IsAtRest e = IsSome (shown_ending e.ending) ⊎ ((e.ending ≡ None) × (e.next ≡ None))

pub record Advances (was : Archived) (p : Pocket) (old : KeptExperiment) (is : Archived) (q : Pocket) (new : KeptExperiment) : Type 0 where
  pub at_rest : old.ending ≡ None → IsAtRest new
  pub housed : IsHousedIn q new
  pub heading : is.heading ≡ was.heading
  pub archived : IsArchived was p old → IsArchived is q new
  pub spec : new.spec ≡ old.spec
  pub consumed : new.consumed ≡ old.consumed
  pub few : new.steps ≤ new.spec.budget.steps

-- no command has arrived yet
pub record IsNew (e : KeptExperiment) : Type 0 where
  pub ending : e.ending ≡ None
  pub next : e.next ≡ None
  pub consumed : e.consumed ≡ []
  pub steps : e.steps ≡ 0

-- the experiment has ended before these commands, or has taken all and none are left
abbrev pub IsOver : KeptExperiment → List Timed → Type 0
IsOver e rest = IsSome (shown_ending e.ending) ⊎ ((e.next ≡ None) × (rest ≡ []))

-- the experiment was given the commands, except those after its end
pub record Plays (commands : List Timed) (was : Archived) (p : Pocket) (old : KeptExperiment) (is : Archived) (q : Pocket) (new : KeptExperiment) : Type 0 where
  pub housed : IsHousedIn q new
  pub heading : is.heading ≡ was.heading
  pub archived : IsArchived was p old → IsArchived is q new
  pub spec : new.spec ≡ old.spec
  pub rest : List Timed
  pub all : commands ≡ new.consumed ++ rest
  pub over : IsOver new rest
  pub few : new.steps ≤ new.spec.budget.steps
