-- The conversation for a text: what a session writes, line by line, and how it ends (our choice).
use Rattle.std.specs.Prelude.{◌≡◌, ◌≢◌, ℕ, ◌+◌, ◌-◌, ◌^◌, ◌<◌, ◌≤◌, ◌⊎◌, min, Bool, true, false, All, List, [], ◌∷◌, ◌++◌, length, take, Option, Some, None, Result, Ok, Err}
use Rattle.std.specs.Io.KnownBytes.{Appends, IsAtEnd}
use Rattle.control.specs.declared.fault.Cause.{Cause}
use Rattle.control.specs.declared.fault.Cause.TheVariants as causes
use Rattle.control.specs.declared.fault.Fault.{Fault}
use Rattle.control_words.specs.Text.{lines}
use Rattle.session.specs.declared.answer.Answer.TheVariants as answers
use Rattle.session.specs.Effects.{LineDoes}
use Rattle.session.specs.Faults.{IsFaultOf}
use Rattle.session.specs.Lines.{answer_line, comment_of}
use Rattle.session.specs.Sessions.{KeptSession}
use Rattle.alone.specs.declared.fault.RunFault.{RunFault}
use Rattle.alone.specs.declared.fault.RunFault.TheVariants as faults
use Rattle.alone.specs.Bytes.{IsCut}

-- ---- a line
-- the texts that may be the hint for a line and its fault
abbrev pub Hinting : Type 1
Hinting = List ℕ → Cause → List ℕ → Type 0

-- the part of a line that a hint sees: if the line is too long, just enough to show this, since no more is stored
abbrev pub seen_of : List ℕ → Cause → List ℕ
seen_of line causes.TooLong = take 513 line
seen_of line _ = line

-- the output for a rejected line: the lines of the hint as comments, and then the fault
abbrev pub IsRefusal : Hinting → List ℕ → Cause → List ℕ → Type 0
IsRefusal hinting line cause said = (hint : List ℕ) × hinting (seen_of line cause) cause hint × (said ≡ comment_of hint ++ answer_line (answers.Fault cause))

-- a line with a fault is rejected, and nothing changes; any other line is obeyed
abbrev pub RepliesBy : Hinting → Option Cause → List ℕ → List ℕ → KeptSession → KeptSession → Type 0
RepliesBy hinting (Some cause) line said old new = IsRefusal hinting line cause said × (new ≡ old)
RepliesBy hinting None line said old new = LineDoes line said old new

-- the output for a line
abbrev pub Replies : Hinting → List ℕ → List ℕ → KeptSession → KeptSession → Type 0
Replies hinting line said old new = (fault : Option Cause) × IsFaultOf line old fault × RepliesBy hinting fault line said old new

-- ---- a text
-- these lines, preceded by earlier ones, which are listed from the latest
abbrev pub with_earlier : List (List ℕ) → List (List ℕ) → List (List ℕ)
with_earlier [] ls = ls
with_earlier (line ∷ done) ls = with_earlier done (line ∷ ls)

-- a session without experiments, and the steps that they may take together, if there is a limit
abbrev pub nobody : Option ℕ → KeptSession
nobody steps = record { opened = []; current = 0; left = steps; traces = false }

-- the output for lines, which are listed from the latest, and the session after them
abbrev pub AreReplied : Hinting → Option ℕ → List (List ℕ) → List ℕ → KeptSession → Type 0
AreReplied hinting steps [] said now = (said ≡ []) × (now ≡ nobody steps)
AreReplied hinting steps (line ∷ done) said now =
    (first more : List ℕ) × (before : KeptSession) × (said ≡ first ++ more) × AreReplied hinting steps done first before × Replies hinting line more before now

-- the output for the bytes after the last line feed: nothing, unless they are already too long for a line
abbrev pub IsAwaited : Hinting → List ℕ → List ℕ → Type 0
IsAwaited hinting last said = ((length last ≤ 512) × (said ≡ [])) ⊎ ((512 < length last) × IsRefusal hinting last causes.TooLong said)

-- the output for a text
pub record Conversation (hinting : Hinting) (steps : Option ℕ) (text said : List ℕ) : Type 0 where
  -- its lines, from the latest, and the bytes after the last line feed
  pub done : List (List ℕ)
  pub last : List ℕ
  pub lines_are : lines text ≡ with_earlier done (last ∷ [])
  -- the output for the lines, the session after them, and the output for the last bytes
  pub first : List ℕ
  pub now : KeptSession
  pub replied : AreReplied hinting steps done first now
  pub more : List ℕ
  pub awaited : IsAwaited hinting last more
  pub said_is : said ≡ first ++ more

-- ---- the end of a conversation
-- one more line; a count that would not fit into 64 bits does not change
abbrev pub next_line : ℕ → ℕ
next_line n = min (n + 1) (2 ^ 64 - 1)

abbrev pub count_of : List (List ℕ) → ℕ
count_of [] = 0
count_of (line ∷ done) = next_line (count_of done)

abbrev pub AreClosed : KeptSession → Type 0
AreClosed s = All (λ o. o.is_closed ≡ true) s.opened

-- the fault is after the last line feed: the line is cut, or an experiment has no end
abbrev pub EndsBy : Cause → List ℕ → KeptSession → Type 0
EndsBy cause last s = ((cause ≡ causes.Cut) × (last ≢ [])) ⊎ ((cause ≡ causes.NoEnd) × (last ≡ []) × (¬ AreClosed s))

-- the text ends without a fault, or with this one
abbrev pub Concludes : Option Fault → {hinting : Hinting} → {steps : Option ℕ} → {text said : List ℕ} → Conversation hinting steps text said → Type 0
Concludes None c = (c.last ≡ []) × AreClosed c.now
Concludes (Some f) c = (f.line ≡ next_line (count_of c.done)) × EndsBy f.cause c.last c.now

-- the text ends in this way, and its whole conversation was written
abbrev pub WritesWhole : Hinting → Option ℕ → List ℕ → Option Fault → Option (List ℕ) → Option (List ℕ) → Type 0
WritesWhole hinting steps text fault old new = (said : List ℕ) × (c : Conversation hinting steps text said) × Concludes fault c × Appends old new said

-- a prefix was written of the conversation for a prefix of the text
abbrev pub WritesSome : Hinting → Option ℕ → List ℕ → Option (List ℕ) → Option (List ℕ) → Type 0
WritesSome hinting steps text old new = (heard rest said : List ℕ) × (text ≡ heard ++ rest) × Conversation hinting steps heard said × IsCut old new said

-- what a session wrote for the text that it read, by its result: `old` was written before it and `new` is after it
abbrev pub Converses : Hinting → Option ℕ → List ℕ → Option (List ℕ) → Option (List ℕ) → Result (Unit {0}) RunFault → Type 0
Converses hinting steps text old new (Ok _) = WritesWhole hinting steps text None old new
Converses hinting steps text old new (Err (faults.Scenario f)) = WritesWhole hinting steps text (Some f) old new
Converses hinting steps text old new (Err faults.Read) = (said : List ℕ) × Conversation hinting steps text said × Appends old new said
Converses hinting steps text old new (Err faults.Write) = WritesSome hinting steps text old new
Converses hinting steps text old new (Err faults.Memory) = WritesSome hinting steps text old new
Converses hinting steps text old new (Err faults.Strange) = ⊥
Converses hinting steps text old new (Err faults.Gate) = ⊥

-- the results with which a session has read to the end of the input
abbrev pub IsEnded : Result (Unit {0}) RunFault → Type 0
IsEnded (Ok _) = Unit {0}
IsEnded (Err (faults.Scenario f)) = Unit {0}
IsEnded (Err _) = ⊥

-- the reader after a session: at its end; failed, or after so many bytes that nobody lives to see it; or not failed
abbrev pub Leaves : List ℕ → Option (List ℕ) → Bool → Result (Unit {0}) RunFault → Type 0
Leaves text rest failed (Ok _) = IsAtEnd rest × (failed ≡ false)
Leaves text rest failed (Err (faults.Scenario f)) = IsAtEnd rest × (failed ≡ false)
Leaves text rest failed (Err faults.Read) = (failed ≡ true) ⊎ (2 ^ 64 - 1 ≤ length text)
Leaves text rest failed (Err _) = failed ≡ false
