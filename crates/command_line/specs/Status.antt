-- The exit statuses.
use Rattle.std.specs.Prelude.{◌≡◌, ◌⊎◌, ◌==◌, ◌&&◌, ℕ, Bool, true, false, not, if◌then◌else◌, List, [], Option, Some, length, count_by, Result, Ok, Err, IfOk, IfErr, IfSome, None}
use Rattle.clap.specs.Words.{IsAmong, Text, fault_of}
use Rattle.clap.specs.declared.error.kind.ErrorKind.{ErrorKind}
use Rattle.clap.specs.declared.error.kind.ErrorKind.TheVariants as kinds
use Rattle.explain.specs.Account.{Told}
use Rattle.explain.specs.declared.notes.Subject.{Subject}
use Rattle.explain.specs.declared.notes.Subject.TheVariants.{Spent}
use Rattle.command_line.specs.declared.words.Task.{Task}
use Rattle.command_line.specs.Tasks.{Does, explains, is_strict}
use Rattle.command_line.specs.Words.{dnlab, plan_of}
use Rattle.alone.specs.declared.fault.RunFault.{RunFault}
use Rattle.alone.specs.declared.fault.RunFault.TheVariants as faults
use Rattle.alone.specs.declared.limits.Stop.{Stop}
use Rattle.alone.specs.declared.limits.Format.{Format}
use Rattle.alone.specs.declared.within.Made.{Made}
use Rattle.alone.specs.Within.{IsMade, done_of}
use Rattle.explain.specs.RunAccount.{IsAccountOf}
use Rattle.alone.specs.declared.limits.Stop.TheVariants as stops
use Rattle.alone.specs.FaultLines.{fault_line}

-- 1 for a fault of the scenario, 3 if a device or an allocation failed, and 4 if the workers failed
abbrev pub status_of_fault : RunFault → ℕ
status_of_fault (faults.Scenario f) = 1
status_of_fault faults.Read = 3
status_of_fault faults.Write = 3
status_of_fault faults.Memory = 3
status_of_fault faults.Strange = 4
status_of_fault faults.Gate = 4

-- 0 for success, the status of a fault, or 3 if a limit was exceeded
abbrev pub status_after : Result (Unit {0}) Stop → ℕ
status_after (Ok _) = 0
status_after (Err (stops.Fault e)) = status_of_fault e
status_after (Err (stops.Steps number total)) = 3
status_after (Err (stops.Output bytes)) = 3

-- the fault for which a call has no result, and its line
abbrev pub fault_after : Result (Unit {0}) Stop → Option RunFault
fault_after (Ok _) = None
fault_after (Err (stops.Fault e)) = Some e
fault_after (Err (stops.Steps number total)) = None
fault_after (Err (stops.Output bytes)) = None

abbrev pub line_of : Option RunFault → List ℕ
line_of None = []
line_of (Some e) = fault_line e

-- 0 if help or the version was requested, 3 if memory ran out, and 2 if the arguments are wrong
abbrev pub status_of_kind : ErrorKind → ℕ
status_of_kind kinds.DisplayHelp = 0
status_of_kind kinds.DisplayVersion = 0
status_of_kind kinds.OutOfMemory = 3
status_of_kind _ = 2

-- that status; or 3 if the message can't be printed
abbrev pub IsStatusOf : ErrorKind → ℕ → Type 0
IsStatusOf kind n = (n ≡ status_of_kind kind) ⊎ (n ≡ 3)

-- the grammar accepts the arguments, but they name a format that is unknown
abbrev pub LacksFormat : List Text → Type 0
LacksFormat words = (fault_of dnlab words ≡ []) × (plan_of words ≡ None)

-- the status for arguments that request no task: that of a fault that they have, 2 for an unknown format, or 3 if memory ran
-- out or a write failed
abbrev pub EndsWords : List Text → ℕ → Type 0
EndsWords words n = ((kind : ErrorKind) × IsAmong kind (fault_of dnlab words) × (n ≡ status_of_kind kind))
    ⊎ ((LacksFormat words × (n ≡ 2)) ⊎ (n ≡ 3))

-- the status after a call; or 3 if memory ran out for the message about it
abbrev pub IsStatusAfter : Result (Unit {0}) Stop → ℕ → Type 0
IsStatusAfter r n = (n ≡ status_after r) ⊎ (n ≡ 3)

-- an experiment spent its steps
abbrev pub is_spent : Subject → Bool
is_spent Spent = true
is_spent _ = false

-- no command was refused, and no experiment spent its steps
abbrev pub is_clean : Told → Bool
is_clean told = (length told.refusals == 0) && (count_by (λ n. is_spent n.subject) told.notes == 0)

-- the status after a successful run with this account
abbrev pub status_told : Task → Told → ℕ
status_told task told = if is_strict task && not (is_clean told) then 5 else 0

-- a strict run that succeeded ends by the account of its reports; or with 3 if memory ran out for the account
abbrev pub EndsStrictly : Made → ℕ → Type 0
EndsStrictly made n = ((told : Told) × IsAccountOf made.reports.items told × (n ≡ (if is_clean told then 0 else 5))) ⊎ (n ≡ 3)

-- a strict call that succeeded: a run; or a check, for which no clause states which commands will be refused
abbrev pub EndsWell : Option Made → ℕ → Type 0
EndsWell (Some made) n = EndsStrictly made n
EndsWell None n = (n ≡ 0) ⊎ ((n ≡ 5) ⊎ (n ≡ 3))

-- the reports that a call made, if it made any, are those of the text that was left to read
abbrev pub IsMadeOf : Option (List ℕ) → Option Made → Type 0
IsMadeOf read made = IfSome made (λ m. (format : Format) × IsMade format read m)

-- the status after a call; with `--explain` memory may run out, and with `--strict` a successful call may fail
pub record EndsCall (task : Task) (outcome : Result (Option Made) Stop) (n : ℕ) : Type 0 where
  pub plain : explains task ≡ false → is_strict task ≡ false → n ≡ status_after (done_of outcome)
  pub lax : is_strict task ≡ false → IsStatusAfter (done_of outcome) n
  pub stopped : IfErr outcome (λ stop. IsStatusAfter (Err stop) n)
  pub strict : is_strict task ≡ true → IfOk outcome (λ made. EndsWell made n)

-- a task was planned and done, and ended with this status
pub record Runs (words : List Text) (given says : List ℕ → Type 0) (read old new : Option (List ℕ)) (n : ℕ) : Type 0 where
  pub task : Task
  pub outcome : Result (Option Made) Stop
  pub planned : plan_of words ≡ Some task
  pub taken : fault_of dnlab words ≡ []
  pub done : Does task given read old new (done_of outcome)
  pub made : IfOk outcome (IsMadeOf read)
  pub ended : EndsCall task outcome n
  pub said : says (line_of (fault_after (done_of outcome)))

-- the effect of the program's arguments: the reader's calls returned these bytes, this line was printed for a fault,
-- `read` was left to read, `old` was written before it and `new` is after it
abbrev pub Answers : List Text → (List ℕ → Type 0) → (List ℕ → Type 0) → Option (List ℕ) → Option (List ℕ) → Option (List ℕ) → ℕ → Type 0
Answers words given says read old new n = Runs words given says read old new n ⊎ (EndsWords words n × (new ≡ old) × says [])
