-- The changes that a run makes to its pipes are a history of happenings (our choice), so laws about histories hold for runs.
use Rattle.std.specs.Prelude.{◌≡◌, ℕ, ◌+◌, Bool, true, false, ◌&&◌, ◌==◌, if◌then◌else◌, List, [], ◌∷◌, ◌++◌, flat_map}
use Rattle.emu_model.specs.declared.records.DropCause.{DropCause}
use Rattle.emu_model.specs.declared.records.DropCause.TheVariants.{Denied, NoPipe, Budget}
use Rattle.emu_model.specs.declared.records.Record.{Record}
use Rattle.emu_model.specs.declared.records.Record.TheVariants.{PacketFinished, PacketDropped}
use Rattle.emu_model.specs.declared.commands.Spec.{Spec}
use Rattle.emu_model.specs.declared.commands.Timed.{Timed}
use Rattle.emu_model.specs.Net.{Net}
use Rattle.emu_model.specs.Alone.{alone}
use Rattle.emu_laws.specs.Happenings.{Happening, Known, after_all, lines_of, told_of}

-- tests for a cause for which a pipe drops a packet, rather than a cause that arises before the packet arrives at a pipe
abbrev pub is_by_pipe : DropCause → Bool
is_by_pipe Denied = false
is_by_pipe NoPipe = false
is_by_pipe Budget = false
is_by_pipe _ = true

-- the record, if a packet finishes in a pipe or is dropped by one
abbrev pub by_pipe : Record → List Record
by_pipe (PacketFinished moment packet pipe instance) = PacketFinished moment packet pipe instance ∷ []
by_pipe (PacketDropped moment packet load cause) =
    if is_by_pipe cause then PacketDropped moment packet load cause ∷ [] else []
by_pipe _ = []

-- the way from one state to another: a history that leads from the pipes of the first to those of the second, and the new records, of
-- which those of finishes in pipes and drops by pipes are the records of the history
pub record GoesOn (seed : ℕ) (before after : Net) : Type 0 where
  pub happenings : List Happening
  pub pipes : after.pipes ≡ after_all seed happenings before.pipes
  pub more : List Record
  pub records : after.records ≡ before.records ++ more
  pub told : flat_map by_pipe more ≡ lines_of seed happenings before.pipes

-- each step of a run changes the pipes by a history
abbrev pub StepsAreHistories : Type 0
StepsAreHistories = (spec : Spec) (c : List Timed) (n : ℕ) →
    GoesOn spec.seed (alone spec c n).net (alone spec c (n + 1)).net

-- the `finish` line of an instance; `finishes_of` has those among all lines, `finishes_told` those among the results at the
-- instance
abbrev pub finish_of : ℕ → ℕ → Record → List Record
finish_of pipe k (PacketFinished moment packet p i) =
    if p == pipe && i == k then PacketFinished moment packet p i ∷ [] else []
finish_of pipe k _ = []

abbrev pub finishes_of : ℕ → ℕ → List Record → List Record
finishes_of pipe k rs = flat_map (finish_of pipe k) rs

abbrev pub finishes_told : ℕ → ℕ → List Known → List Record
finishes_told pipe k ks = flat_map (λ x. finishes_of pipe k x.lines) ks

-- a history that leads from no pipes to those of the state; the `finish` lines of an instance are the results of its own
-- part of the history
pub record IsHistory (seed : ℕ) (n : Net) : Type 0 where
  pub happenings : List Happening
  pub pipes : n.pipes ≡ after_all seed happenings []
  pub told : flat_map by_pipe n.records ≡ lines_of seed happenings []
  pub finishes : (pipe k : ℕ) →
      finishes_of pipe k n.records ≡ finishes_told pipe k (told_of seed pipe k happenings [])

-- each run as a whole is a history, in every state
abbrev pub RunsAreHistories : Type 0
RunsAreHistories = (spec : Spec) (c : List Timed) (n : ℕ) → IsHistory spec.seed (alone spec c n).net
