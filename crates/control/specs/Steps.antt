-- Processing the entries of lines from the first to the last, up to the first fault.
use Rattle.std.specs.Prelude.{ℕ, Bool, List, [], ◌∷◌, ◌++◌, length, Option, Some, None, Result, Ok, Err, is_some, nat_lt, nat_le, ◌==◌, if◌then◌else◌}
use Rattle.std.specs.List.{list_any}
use Rattle.std.specs.Str.{bytes_eq}
use Rattle.emu_model.specs.declared.commands.Spec.{Spec}
use Rattle.emu_model.specs.declared.commands.Timed.{Timed}
use Rattle.control_lines.specs.Entries.{Entry, Nothing, Begins, Does}
use Rattle.control_lines.specs.declared.line.LineFault.{LineFault}
use Rattle.control_lines.specs.declared.line.LineFault.TheVariants as alone
use Rattle.emu_model.specs.Commands.{is_end}
use Rattle.control.specs.Scenario.{begun, with_command}
use Rattle.control.specs.declared.fault.Cause.{Cause}
use Rattle.control.specs.declared.fault.Cause.TheVariants.{TooLong, BadByte, BadWord, OutOfRange, NoEnd, TooMany, SameName, NoExperiment, AfterEnd, Backwards}
use Rattle.control.specs.declared.fault.LineError.{LineError}
use Rattle.control.specs.declared.fault.LineError.TheVariants as line_error
use Rattle.control.specs.declared.fault.ParseError.{ParseError}
use Rattle.control.specs.declared.fault.ParseError.TheVariants as errors
use Rattle.control.specs.declared.scenario.Experiment.{Experiment}

abbrev pub cause_in_line : LineFault → Cause
cause_in_line alone.TooLong = TooLong
cause_in_line alone.BadByte = BadByte
cause_in_line alone.BadWord = BadWord
cause_in_line alone.OutOfRange = OutOfRange

abbrev pub error_at : LineError → ℕ → ParseError
error_at line_error.Memory n = errors.NoMemory
error_at (line_error.Cause c) n = errors.Fault (record { line = n; cause = c })

-- the experiments that have their end, the one that does not, and the time of its last command
pub record Sofar : Type 0 where
  pub done : List Experiment
  pub running : Option Experiment
  pub latest : ℕ

abbrev pub has_name : List ℕ → Experiment → Bool
has_name name e = bytes_eq e.name name

-- the line of an experiment
unfoldable pub begin : Sofar → List ℕ → Spec → Result Sofar Cause
begin s name spec =
    if is_some s.running then Err NoEnd
    else if nat_le 256 (length s.done) then Err TooMany
    else if list_any (has_name name) s.done then Err SameName
    else Ok (record { done = s.done; running = Some (begun name spec); latest = 0 })

abbrev pub add_at : List Experiment → Option Experiment → ℕ → Timed → Result Sofar Cause
add_at done None latest c = if length done == 0 then Err NoExperiment else Err AfterEnd
add_at done (Some e) latest c = if nat_lt c.moment latest then Err Backwards
    else if is_end c.command then Ok (record { done = done ++ with_command e c ∷ []; running = None; latest = c.moment })
    else Ok (record { done = done; running = Some (with_command e c); latest = c.moment })

-- the line of a command
unfoldable pub add : Sofar → Timed → Result Sofar Cause
add s c = add_at s.done s.running s.latest c

abbrev pub step : Sofar → Entry → Result Sofar Cause
step s Nothing = Ok s
step s (Begins name spec) = begin s name spec
step s (Does c) = add s c
