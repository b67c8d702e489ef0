-- The lines that a session rejects, and the fault of each (our choice).
use Rattle.std.specs.Prelude.{◌≡◌, ℕ, ◌-◌, Bool, false, ◌<◌, ◌≤◌, ◌⊎◌, List, length, Option, Some, None, Result, Ok, Err, nat_lt, nat_le, if◌then◌else◌, is_some, position, slice_get}
use Rattle.std.specs.Str.{bytes_eq}
use Rattle.emu_model.specs.declared.commands.Spec.{Spec}
use Rattle.control.specs.declared.fault.Cause.{Cause}
use Rattle.control.specs.declared.fault.Cause.TheVariants.{TooLong, BadByte, BadWord, OutOfRange, TooMany, SameName, NoExperiment, AfterEnd, Backwards}
use Rattle.control_lines.specs.declared.line.LineFault.{LineFault}
use Rattle.control_lines.specs.declared.line.LineFault.TheVariants as alone
use Rattle.control_lines.specs.Entries.{Entry, Nothing, Begins, Does, IsEntry, IsFirstAlone}
use Rattle.session.specs.declared.answer.Answer.{Answer}
use Rattle.session.specs.declared.answer.Answer.TheVariants as answers
use Rattle.session.specs.declared.open.Phase.{Phase}
use Rattle.session.specs.declared.open.Phase.TheVariants.{Going, Over, Lost}
use Rattle.session.specs.Opens.{KeptOpen, IsFault}
use Rattle.session.specs.Requests.{Asked, Until, UntilMine, UntilAny, Next, AddNext, Use, Show, Trace, Help, asked_of, request_of}
use Rattle.session.specs.Sessions.{KeptSession}

-- the cause of a fault that a line has by itself
abbrev pub cause_of : LineFault → Cause
cause_of alone.TooLong = TooLong
cause_of alone.BadByte = BadByte
cause_of alone.BadWord = BadWord
cause_of alone.OutOfRange = OutOfRange

-- the place of the first experiment with a name
abbrev pub place_named : List ℕ → List KeptOpen → Option ℕ
place_named name os = position (λ o. bytes_eq o.name name) os

-- tests whether these are more steps than are left
abbrev pub exceeds : Option ℕ → ℕ → Bool
exceeds None steps = false
exceeds (Some left) steps = nat_lt left steps

-- the steps that are left after these
abbrev pub left_after : Option ℕ → ℕ → Option ℕ
left_after None steps = None
left_after (Some left) steps = Some (left - steps)

-- the fault of a line that begins an experiment, if it has one
abbrev pub begin_fault : KeptSession → List ℕ → Spec → Option Cause
begin_fault s name spec =
    if nat_le 256 (length s.opened) then Some TooMany
    else if is_some (place_named name s.opened) then Some SameName
    else if exceeds s.left spec.budget.steps then Some TooMany else None

-- the fault of a command for an experiment, if it has one
abbrev pub command_fault : KeptOpen → ℕ → Option Cause
command_fault o moment =
    if o.is_closed then Some AfterEnd else if nat_lt moment o.reached then Some Backwards else None

-- the fault of a request to let time pass in an experiment, if it has one
abbrev pub fault_in : Phase → ℕ → ℕ → Option Cause
fault_in Going reached limit = if nat_lt limit reached then Some Backwards else None
fault_in Over reached limit = None
fault_in Lost reached limit = None

abbrev pub time_fault : KeptOpen → ℕ → Option Cause
time_fault o limit = fault_in o.phase o.reached limit

-- the fault of a line for the current experiment, which must exist
abbrev pub of_current : (KeptOpen → Option Cause) → Option KeptOpen → Option Cause
of_current f None = Some NoExperiment
of_current f (Some o) = f o

abbrev pub current_of : KeptSession → Option KeptOpen
current_of s = slice_get s.opened s.current

abbrev pub request_fault : KeptSession → Asked → Option Cause
request_fault s (Until limit) = of_current (λ o. time_fault o limit) (current_of s)
request_fault s (UntilMine limit hold) = of_current (λ o. time_fault o limit) (current_of s)
request_fault s (UntilAny limit hold) = of_current (λ o. time_fault o limit) (current_of s)
request_fault s Next = of_current (λ o. None) (current_of s)
request_fault s (AddNext on) = of_current (λ o. None) (current_of s)
request_fault s (Show all) = of_current (λ o. None) (current_of s)
request_fault s (Use name) = if is_some (place_named name s.opened) then None else Some NoExperiment
request_fault s (Trace on) = None
request_fault s Help = None

-- the fault of the line of a request, if it has one
abbrev pub asked_fault : KeptSession → Result Asked Cause → Option Cause
asked_fault s (Err cause) = Some cause
asked_fault s (Ok a) = request_fault s a

-- the fault of the entry of a line, if it has one
abbrev pub entry_fault : KeptSession → Entry → Option Cause
entry_fault s Nothing = None
entry_fault s (Begins name spec) = begin_fault s name spec
entry_fault s (Does c) = of_current (λ o. command_fault o c.moment) (current_of s)

abbrev pub IsFaultAlone : KeptSession → List ℕ → Option Cause → Type 0
IsFaultAlone s line fault =
    ((c : LineFault) × IsFirstAlone c line × (fault ≡ Some (cause_of c)))
    ⊎ ((e : Entry) × IsEntry line e × (fault ≡ entry_fault s e))

abbrev pub IsFaultBy : Option (List ℕ) → KeptSession → List ℕ → Option Cause → Type 0
IsFaultBy (Some asked) s line fault = fault ≡ asked_fault s (request_of asked)
IsFaultBy None s line fault = IsFaultAlone s line fault

-- the fault for which a line is rejected, if it has one
abbrev pub IsFaultOf : List ℕ → KeptSession → Option Cause → Type 0
IsFaultOf line s fault =
    ((512 < length line) × (fault ≡ Some TooLong))
    ⊎ ((length line ≤ 512) × IsFaultBy (asked_of line) s line fault)

-- a fault is the answer, and nothing changes; without a fault, the answer is no fault
abbrev pub Answers : Option Cause → Answer → Type 0 → Type 0
Answers None a same = ¬ IsFault a
Answers (Some c) a same = (a ≡ answers.Fault c) × same
