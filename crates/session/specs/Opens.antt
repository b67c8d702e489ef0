-- An experiment of a session, whose commands arrive line by line, and what was reported of it (our choice).
use Rattle.std.specs.Prelude.{◌≡◌, ℕ, ◌^◌, ◌≤◌, Bool, true, false, None, IsSome, List, [], ◌∷◌, ◌++◌, flat_map}
use Rattle.emu_model.specs.declared.commands.Timed.{Timed}
use Rattle.emu_model.specs.declared.records.Record.{Record}
use Rattle.report.specs.Lines.{heading_of, line_of}
use Rattle.session.specs.declared.answer.Answer.{Answer}
use Rattle.session.specs.declared.answer.Answer.TheVariants as answers
use Rattle.session.specs.declared.open.Phase.{Phase}
use Rattle.session.specs.declared.open.Phase.TheVariants.{Going, Over, Lost}
use Rattle.session.specs.Runs.{KeptRun, IsAt, Forgets, closing_of}
use Rattle.session.specs.RunLaws.{report_of_commands}

-- its name, its run, the time that it has reached, its phase, whether its `end` has arrived, whether the answer to `next` is
-- added to others, and whether it runs traced
pub record KeptOpen : Type 0 where
  pub name : List ℕ
  pub run : KeptRun
  pub reached : ℕ
  pub phase : Phase
  pub is_closed : Bool
  pub adds_next : Bool
  pub traced : Bool

-- a running experiment waits at this time, and everything that it has written was passed on
abbrev pub IsOpen : Phase → ℕ → KeptRun → Bool → Type 0
IsOpen Going t r closed = (t ≤ 10 ^ 15) × (r.report.text ≡ []) × (closed ≡ false) × (earlier : List Record) × IsAt t earlier r
IsOpen Over t r closed = Unit {0}
IsOpen Lost t r closed = Unit {0}

-- the commands that may still arrive after it is over: an empty list requires its `end`, and otherwise
-- the first command is not before the time reached
abbrev pub MayCome : KeptOpen → List Timed → Type 0
MayCome o [] = o.is_closed ≡ true
MayCome o (c ∷ rest) = o.reached ≤ c.moment

-- a running experiment: these commands arrived, and this text, with all of its records, was reported
pub record IsGoing (came : List Timed) (told : List ℕ) (o : KeptOpen) : Type 0 where
  pub shows : o.run.shows_all ≡ true
  pub unclosed : o.is_closed ≡ false
  pub consumed : o.run.experiment.consumed ≡ came
  pub earlier : List Record
  pub at : IsAt o.reached earlier o.run
  pub lines : told ≡ heading_of o.name ++ flat_map line_of earlier

-- the text is the report of running it alone on the commands that arrived and any that may still arrive
abbrev pub IsOver : List Timed → List ℕ → KeptOpen → Type 0
IsOver came told o = (rest : List Timed) → MayCome o rest → told ≡ report_of_commands o.name o.run.experiment.spec (came ++ rest)

-- like `IsOver`, whatever commands follow, because a command ended it
abbrev pub IsWhole : List Timed → List ℕ → KeptOpen → Type 0
IsWhole came told o = (rest : List Timed) → told ≡ report_of_commands o.name o.run.experiment.spec (came ++ rest)

-- the text that was reported of an experiment to which these commands arrived is its report so far
abbrev pub IsToldIn : Phase → List Timed → List ℕ → KeptOpen → Type 0
IsToldIn Going came told o = IsGoing came told o
IsToldIn Over came told o = IsOver came told o
IsToldIn Lost came told o = ⊥

abbrev pub IsTold : List Timed → List ℕ → KeptOpen → Type 0
IsTold came told o = IsToldIn o.phase came told o

-- between two states these bytes were reported, and these commands arrived
abbrev pub Tells : List Timed → List ℕ → KeptOpen → KeptOpen → Type 0
Tells more bytes old new = (came : List Timed) (told : List ℕ) → IsTold came told old → IsTold (came ++ more) (told ++ bytes) new

-- like `IsToldIn`, after a command, which may have ended the experiment
abbrev pub IsTakenIn : Phase → List Timed → List ℕ → KeptOpen → Type 0
IsTakenIn Going came told o = IsGoing came told o
IsTakenIn Over came told o = IsWhole came told o
IsTakenIn Lost came told o = ⊥

abbrev pub Takes : Timed → List ℕ → KeptOpen → KeptOpen → Type 0
Takes c bytes old new = (came : List Timed) (told : List ℕ) → IsTold came told old → IsTakenIn new.phase (came ++ c ∷ []) (told ++ bytes) new

-- the name and the spec of the experiment do not change, nor whether it runs traced
pub record IsSame (old new : KeptOpen) : Type 0 where
  pub name : new.name ≡ old.name
  pub spec : new.run.experiment.spec ≡ old.run.experiment.spec
  pub traced : new.traced ≡ old.traced

-- the new records are reported, with the counters if the experiment has ended, and everything written is passed on
pub record Settles (old new : KeptOpen) (bytes : List ℕ) : Type 0 where
  pub written : KeptRun
  pub forgets : Forgets old.run written
  pub is : new ≡ record old { phase = new.phase; run = record written { report = record written.report { text = [] } } }
  pub going : new.phase ≡ Going → (written.experiment.ending ≡ None) × (bytes ≡ written.report.text)
  pub goes_on : written.experiment.ending ≡ None → new.phase ≡ Going
  pub ends : IsSome written.experiment.ending → new.phase ≡ Over
  pub over : new.phase ≡ Over → IsSome written.experiment.ending × (bytes ≡ written.report.text ++ closing_of written)

-- an answer that rejects a line
abbrev pub IsFault : Answer → Type 0
IsFault (answers.Fault cause) = Unit {0}
IsFault _ = ⊥

-- the answer that reports the phase and the time
abbrev pub stand_in : Phase → ℕ → Answer
stand_in Going t = answers.Now t
stand_in Over t = answers.Over t
stand_in Lost t = answers.Over t

abbrev pub stand_of : KeptOpen → Answer
stand_of o = stand_in o.phase o.reached
