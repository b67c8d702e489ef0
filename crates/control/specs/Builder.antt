-- The contents of a builder, and the results of its calls.
use Rattle.std.specs.Prelude.{◌≡◌, ℕ, List, Result, Ok, Err, ◌⊎◌}
use Rattle.control_lines.specs.Entries.{Entry, Nothing, Begins, Does, IsEntry, IsFirstAlone}
use Rattle.control_lines.specs.declared.line.LineFault.{LineFault}
use Rattle.control.specs.Names.{IsName}
use Rattle.control.specs.Scenario.{Grows}
use Rattle.control.specs.Steps.{cause_in_line, Sofar, step}
use Rattle.control.specs.declared.fault.Cause.{Cause}
use Rattle.control.specs.declared.fault.LineError.{LineError}
use Rattle.control.specs.declared.fault.LineError.TheVariants as line_error
use Rattle.control.specs.declared.reading.Builder.{Builder}

abbrev pub sofar : Builder → Sofar
sofar b = record { done = b.done.items; running = b.running; latest = b.latest }

-- the name with which an experiment begins has the form of a name
abbrev pub IsNamed : Entry → Type 0
IsNamed Nothing = Unit {0}
IsNamed (Begins name spec) = IsName name
IsNamed (Does c) = Unit {0}

abbrev pub Passes : Result Sofar Cause → Type 0
Passes (Ok s) = Unit {0}
Passes (Err c) = ⊥

-- the result of the step, or a failed allocation if the step passes
abbrev pub GivesStep : {X : Type 0} → Sofar → Result X LineError → Result Sofar Cause → Type 0
GivesStep new (Ok x) read = read ≡ Ok new
GivesStep new (Err line_error.Memory) read = Passes read
GivesStep new (Err (line_error.Cause c)) read = read ≡ Err c

abbrev pub OnMemory : {X : Type 0} → Result X LineError → Type 0 → Type 0
OnMemory (Ok x) P = Unit {0}
OnMemory (Err line_error.Memory) P = P
OnMemory (Err (line_error.Cause c)) P = Unit {0}

-- the outcome of a line
abbrev pub Taken : {X : Type 0} → Sofar → List ℕ → Result X LineError → Sofar → Type 0
Taken old line (Ok x) new = (e : Entry) × IsEntry line e × (step old e ≡ Ok new)
Taken old line (Err line_error.Memory) new = (e : Entry) × IsEntry line e × Passes (step old e) × Grows e
Taken old line (Err (line_error.Cause c)) new = ((fault : LineFault) × IsFirstAlone fault line × (cause_in_line fault ≡ c)) ⊎ ((e : Entry) × IsEntry line e × (step old e ≡ Err c))
