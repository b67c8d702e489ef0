-- What is due in a state.
use Rattle.std.specs.Prelude.{◌≡◌, ℕ, Bool, false, Option, Some, None, List, [], ◌∷◌, ◌++◌, filter, take}
use Rattle.std.specs.List.{list_any}
use Rattle.emu_model.specs.declared.commands.Timed.{Timed}
use Rattle.emu_model.specs.declared.sources.Due.{Due}
use Rattle.emu_model.specs.declared.sources.Source.{Source}
use Rattle.emu_model.specs.declared.sources.Class.TheVariants.{NextCommand}
use Rattle.emu_model.specs.Dues.{due, dues_of}
use Rattle.emu_model.specs.Step.{State, next_event}
use Rattle.emu_model.specs.RunLaws.{same_source}

-- the due of the next command, which is the first of the commands that are left
abbrev pub command_dues : List Timed → List Due
command_dues [] = []
command_dues (c ∷ rest) = due NextCommand 0 c.moment ∷ []

-- the next event: the first of what is due, if a command is left
abbrev pub first_due : List Timed → State → Option Due
first_due [] s = None
first_due (c ∷ rest) s = Some (next_event s c)

abbrev pub next_due_in : State → Option Due
next_due_in s = first_due s.left s

-- the dues of the next command and of all events
abbrev pub dues_in : State → List Due
dues_in s = command_dues s.left ++ dues_of s.clock s.net

-- the dues of one source
abbrev pub dues_at : Source → List Due → List Due
dues_at s dues = filter (λ d. same_source d.source s) dues

-- whether a source is among these named ones
abbrev pub names : Source → List Source → Bool
names s named = list_any (λ t. same_source t s) named

-- each source whose dues differ is named
abbrev pub Covers : List Due → List Due → List Source → Type 0
Covers before now named = (s : Source) → names s named ≡ false →
    dues_at s before ≡ dues_at s now

-- no source is named that has no due in either list
abbrev pub NamesNoOther : List Due → List Due → List Source → Type 0
NamesNoOther before now named = (s : Source) → dues_at s before ≡ [] → dues_at s now ≡ [] →
    names s named ≡ false

-- as far as two lists were compared, each source whose dues differ is named, and none that has no due
pub record NamesUpTo (i j : ℕ) (before now : List Due) (named : List Source) : Type 0 where
  pub covers : Covers (take i before) (take j now) named
  pub no_other : NamesNoOther before now named
