-- The part of a text that a session has received.
use Rattle.std.specs.Prelude.{◌≡◌, ◌≢◌, ℕ, ◌<◌, ◌≤◌, ◌⊎◌, Bool, true, false, List, [], ◌∷◌, ◌++◌, length, flat_map, Option, Result, Ok, Err}
use Rattle.std.specs.List.{AllByRecursion}
use Rattle.control.specs.Scenario.{experiments}
use Rattle.control_lines.specs.Entries.{Entry, Says}
use Rattle.control.specs.declared.fault.Cause.{Cause}
use Rattle.control.specs.declared.fault.Cause.TheVariants.{Cut, NoEnd}
use Rattle.session.specs.declared.answer.Answer.TheVariants as answers
use Rattle.session.specs.Sessions.{KeptSession, Piece, Answered, Hinted, IsPlain, Turns, Takes, TellsAll, told, written}
use Rattle.alone.specs.declared.fault.RunFault.{RunFault}
use Rattle.alone.specs.declared.fault.RunFault.TheVariants as faults
use Rattle.alone.specs.Bytes.{Stops}
use Rattle.alone.specs.Conversations.{AreClosed, Conversation, Hinting, Replies, count_of, next_line}

-- the session, the received part of an incomplete line, the output that is not written yet, whether the rest of a line is
-- skipped, and the number of complete lines
pub record KeptTalk : Type 0 where
  pub session : KeptSession
  pub part : List ℕ
  pub out : List ℕ
  pub is_skipping : Bool
  pub lines : ℕ

-- the output for a rejected line
abbrev pub refusal : List ℕ → Cause → List Piece
refusal hint cause = Hinted hint ∷ Answered (answers.Fault cause) ∷ []

-- no line is `#> show mine`; and tracing is off after each line, or it is on after each, which the first line asks for
abbrev pub AsksForAll : Bool → List (List ℕ) → Type 0
AsksForAll false ls = AllByRecursion (λ line. Turns line false false) ls
AsksForAll true [] = ⊥
AsksForAll true (line ∷ ls) = Turns line false true × AllByRecursion (λ line. Turns line true true) ls

-- the entries that lines spell, both listed from the latest
abbrev pub Say : List (List ℕ) → List Entry → Type 0
Say [] [] = Unit {0}
Say (line ∷ done) (e ∷ before) = Says line e × Say done before
Say _ _ = ⊥

-- after these lines, from the latest, tracing is `on`, all records are reported, and tracing did not change after an
-- experiment had begun
abbrev pub TurnsAll : Bool → List (List ℕ) → List Entry → Type 0
TurnsAll on [] before = false ≡ on
TurnsAll on (line ∷ done) [] = ⊥
TurnsAll on (line ∷ done) (e ∷ before) = (was : Bool) × Turns line was on × ((was ≡ on) ⊎ (experiments before ≡ [])) × TurnsAll was done before

-- these lines, from the latest, were answered: the bytes of reports are the reports so far
abbrev pub IsHeard : List (List ℕ) → List Piece → KeptSession → Type 0
IsHeard done ps s = (on : Bool) (before : List Entry) → Say done before → TurnsAll on done before → AllByRecursion IsPlain ps → TellsAll on (experiments before) (flat_map told ps) s

-- the output for a line, in pieces
abbrev pub IsReplied : Hinting → List ℕ → List Piece → KeptSession → KeptSession → Type 0
IsReplied hinting line qs old new = Takes line qs old new × Replies hinting line (flat_map written qs) old new

-- the bytes of a line are stored until its line feed arrives, or none are if the line is too long
abbrev pub IsKept : Bool → List ℕ → List ℕ → Type 0
IsKept true last part = (512 < length last) × (part ≡ [])
IsKept false last part = (length last ≤ 512) × (part ≡ last)

-- a text was received, and this is the output for it
pub record Heard (hinting : Hinting) (steps : Option ℕ) (text : List ℕ) (ps : List Piece) (t : KeptTalk) : Type 0 where
  pub says : Conversation hinting steps text (flat_map written ps)
  pub now : t.session ≡ says.now
  pub counted : t.lines ≡ count_of says.done
  pub kept : IsKept t.is_skipping says.last t.part
  pub heard : IsHeard says.done ps t.session
  -- a line that is too long was rejected, so its output is not plain
  pub takes : AllByRecursion IsPlain ps → t.is_skipping ≡ false

-- more of a text was received, and this is the output for it
abbrev pub GoesOn : Hinting → List ℕ → List Piece → KeptTalk → KeptTalk → Type 0
GoesOn hinting bytes qs old new = (steps : Option ℕ) (text : List ℕ) (ps : List Piece) → Heard hinting steps text ps old → Heard hinting steps (text ++ bytes) (ps ++ qs) new

-- one more line is complete
abbrev pub counted : KeptTalk → KeptTalk
counted t = record t { lines = next_line t.lines }

-- the result of a session at the end of its input
abbrev pub IsEnding : KeptTalk → Result (Unit {0}) RunFault → Type 0
IsEnding t (Ok _) = (t.part ≡ []) × (t.is_skipping ≡ false) × AreClosed t.session
IsEnding t (Err (faults.Scenario f)) = (f.line ≡ next_line t.lines) × (
    ((f.cause ≡ Cut) × ((t.part ≢ []) ⊎ (t.is_skipping ≡ true)))
    ⊎ ((f.cause ≡ NoEnd) × (t.part ≡ []) × (t.is_skipping ≡ false) × (¬ AreClosed t.session)))
IsEnding t (Err _) = ⊥

-- the faults that can occur in the middle of a text: memory ran out, or the writer failed
abbrev pub IsStop : RunFault → Type 0
IsStop faults.Memory = Unit {0}
IsStop faults.Write = Unit {0}
IsStop _ = ⊥

-- a prefix of the bytes was received, and a prefix of the output for it was written
abbrev pub IsHalfHeard : Hinting → List ℕ → KeptTalk → Option (List ℕ) → Option (List ℕ) → RunFault → Type 0
IsHalfHeard hinting bytes old before after fault = IsStop fault × (heard rest : List ℕ) × (qs : List Piece) × (t : KeptTalk)
    × (bytes ≡ heard ++ rest) × GoesOn hinting heard qs old t × Stops before old.out after (flat_map written qs)
