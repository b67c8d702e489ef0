-- What a session writes, line by line, and its state (our choice).
use Rattle.std.specs.Prelude.{◌≡◌, ◌⊎◌, ℕ, ◌-◌, Bool, false, Result, Ok, Option, Some, None, List, [], ◌∷◌, ◌++◌, length, map, flat_map, codes}
use Rattle.std.specs.List.{AllByRecursion}
use Rattle.control.specs.declared.fault.Cause.{Cause}
use Rattle.control.specs.declared.scenario.Experiment.{Experiment}
use Rattle.control.specs.Scenario.{experiments}
use Rattle.control_lines.specs.Entries.{Entry, Says}
use Rattle.session.specs.declared.answer.Answer.{Answer}
use Rattle.session.specs.Lines.{answer_line, answer_both, help_lines, comment_of}
use Rattle.session.specs.Opens.{KeptOpen, IsTold, IsFault}
use Rattle.session.specs.Requests.{Asked, Show, Trace, asked_of, request_of}
use Rattle.session.specs.Tracing.{run_as}

-- the experiments of a session, the place of the current one, the steps that further experiments may take together, if there
-- is a limit, and whether further experiments run traced
pub record KeptSession : Type 0 where
  pub opened : List KeptOpen
  pub current : ℕ
  pub left : Option ℕ
  pub traces : Bool

-- a piece of output: bytes of reports, or lines that begin with `#`: an answer, an answer with the answer to `next`,
-- the name of the new current experiment, the list of requests, or a hint
pub data Piece : Type 0 where
  Told : List ℕ → Piece
  Answered : Answer → Piece
  AnsweredBoth : Answer → Answer → Piece
  Turned : List ℕ → Piece
  Helped : Piece
  Hinted : List ℕ → Piece

abbrev pub written : Piece → List ℕ
written (Told bytes) = bytes
written (Answered a) = answer_line a
written (AnsweredBoth a b) = answer_both a b
written (Turned name) = codes "#: " ++ name ++ codes "\n"
written Helped = help_lines
written (Hinted text) = comment_of text

-- the bytes of reports in a piece
abbrev pub told : Piece → List ℕ
told (Told bytes) = bytes
told _ = []

-- a piece that neither rejects a line nor changes the current experiment
abbrev pub IsPlain : Piece → Type 0
IsPlain (Answered a) = ¬ IsFault a
IsPlain (AnsweredBoth a b) = ¬ IsFault a
IsPlain (Turned name) = ⊥
IsPlain _ = Unit {0}

-- ---- what a request changes of the reports
-- a request after which all records are still reported, and tracing is `on` where it was `was`
abbrev pub TurnsBy : Result Asked Cause → Bool → Bool → Type 0
TurnsBy (Ok (Show false)) was on = ⊥
TurnsBy (Ok (Trace new)) was on = new ≡ on
TurnsBy _ was on = was ≡ on

abbrev pub TurnsIn : Option (List ℕ) → Bool → Bool → Type 0
TurnsIn (Some asked) was on = TurnsBy (request_of asked) was on
TurnsIn None was on = was ≡ on

-- the same, of a line
abbrev pub Turns : List ℕ → Bool → Bool → Type 0
Turns line was on = TurnsIn (asked_of line) was on

-- an experiment of a scenario, what was reported of it, and its state in the session
pub record Stand : Type 0 where
  pub experiment : Experiment
  pub text : List ℕ
  pub kept : KeptOpen

-- it runs traced or not, and what was reported of it is its report so far
pub record IsSoFar (on : Bool) (x : Stand) : Type 0 where
  pub name : x.kept.name ≡ x.experiment.name
  pub traced : x.kept.traced ≡ on
  pub spec : x.kept.run.experiment.spec ≡ (run_as on x.experiment).spec
  pub told : IsTold (run_as on x.experiment).commands x.text x.kept

-- the text is the reports so far of these experiments, one after the other; the last one is the current one; all run
-- traced, and tracing is on, or all run as they are, and it is off
pub record TellsAll (on : Bool) (es : List Experiment) (text : List ℕ) (s : KeptSession) : Type 0 where
  pub stands : List Stand
  pub experiments_are : es ≡ map (λ (x : Stand). x.experiment) stands
  pub text_is : text ≡ flat_map (λ (x : Stand). x.text) stands
  pub opened_are : s.opened ≡ map (λ (x : Stand). x.kept) stands
  pub each : AllByRecursion (IsSoFar on) stands
  pub last : s.current ≡ length stands - 1
  pub traces : s.traces ≡ on

-- between two sessions these bytes were reported, and `more` maps the old experiments to the new ones
abbrev pub Grows : (List Experiment → List Experiment) → List ℕ → KeptSession → KeptSession → Type 0
Grows more bytes old new = (on : Bool) (es : List Experiment) (text : List ℕ) → TellsAll on es text old → TellsAll on (more es) (text ++ bytes) new

-- like `Grows`, by a request; tracing can change before the first experiment begins
abbrev pub Asks : Result Asked Cause → List ℕ → KeptSession → KeptSession → Type 0
Asks asked bytes old new = (was on : Bool) (es : List Experiment) (text : List ℕ) → TurnsBy asked was on → (was ≡ on) ⊎ (es ≡ []) →
    TellsAll was es text old → TellsAll on es (text ++ bytes) new

-- like `Grows`, by a line of a scenario, for any entry that the line spells
abbrev pub Hears : List ℕ → List ℕ → KeptSession → KeptSession → Type 0
Hears line bytes old new = (on : Bool) (e : Entry) (before : List Entry) (text : List ℕ) → Says line e →
    TellsAll on (experiments before) text old → TellsAll on (experiments (e ∷ before)) (text ++ bytes) new

-- the output for an accepted line: if it is plain and the line leaves all records to be reported, the text is still the
-- reports so far
pub record Takes (line : List ℕ) (ps : List Piece) (old new : KeptSession) : Type 0 where
  pub hears : AllByRecursion IsPlain ps → (was on : Bool) (e : Entry) (before : List Entry) (text : List ℕ) → Turns line was on →
      (was ≡ on) ⊎ (experiments before ≡ []) → Says line e →
      TellsAll was (experiments before) text old → TellsAll on (experiments (e ∷ before)) (text ++ flat_map told ps) new
