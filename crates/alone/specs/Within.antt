-- The effect of a call with limits: it stops if its experiments exceed a limit, and otherwise acts as a call without limits.
-- `says` is the output for experiments.
use Rattle.std.specs.Prelude.{◌≡◌, ℕ, ◌+◌, ◌<◌, ◌≤◌, List, length, map, sum, take, Option, Some, None, IfSome, Result, Ok, Err}
use Rattle.std.specs.Io.KnownBytes.{Appends, Keeps}
use Rattle.control.specs.declared.scenario.Experiment.{Experiment}
use Rattle.control.specs.Scenario.{HasFault}
use Rattle.alone.specs.declared.fault.RunFault.{RunFault}
use Rattle.alone.specs.declared.fault.RunFault.TheVariants as faults
use Rattle.alone.specs.declared.limits.Format.{Format}
use Rattle.alone.specs.declared.limits.Limits.{Limits}
use Rattle.alone.specs.declared.limits.Stop.{Stop}
use Rattle.alone.specs.declared.limits.Stop.TheVariants as stops
use Rattle.alone.specs.declared.within.Made.{Made}
use Rattle.alone.specs.Bytes.{IsCut}
use Rattle.alone.specs.Reports.{made_alone, scenario_as, IsOwnFault, Reads}

-- the sum of the steps that experiments may take
abbrev pub steps_of : List Experiment → ℕ
steps_of es = sum (map (λ e. e.spec.budget.steps) es)

-- there is no limit, or `n` is within it
abbrev pub IsWithin : Option ℕ → ℕ → Type 0
IsWithin limit n = IfSome limit (λ most. n ≤ most)

-- there is a limit, and `n` exceeds it
abbrev pub IsPast : Option ℕ → ℕ → Type 0
IsPast None n = ⊥
IsPast (Some most) n = most < n

-- the experiment with this number, from 0, is the first with which the steps exceed the limit; `total` is the sum of all
pub record PassesSteps (limits : Limits) (es : List Experiment) (number total : ℕ) : Type 0 where
  pub before : IsWithin limits.steps (steps_of (take number es))
  pub past : IsPast limits.steps (steps_of (take (number + 1) es))
  pub summed : total ≡ steps_of es

-- the steps are within their limit, and the output has this many bytes, which exceed its limit
pub record PassesOutput (limits : Limits) (says : List Experiment → List ℕ) (es : List Experiment) (bytes : ℕ) : Type 0 where
  pub steps : IsWithin limits.steps (steps_of es)
  pub output : IsPast limits.output bytes
  pub counted : bytes ≡ length (says es)

-- the steps and the output are within their limits
pub record Fits (limits : Limits) (says : List Experiment → List ℕ) (es : List Experiment) : Type 0 where
  pub steps : IsWithin limits.steps (steps_of es)
  pub output : IsWithin limits.output (length (says es))

-- a stop because the steps of experiments exceed the limit
abbrev pub IsStepsStop : Limits → List Experiment → Stop → Type 0
IsStepsStop limits es (stops.Fault e) = ⊥
IsStepsStop limits es (stops.Steps number total) = PassesSteps limits es number total
IsStepsStop limits es (stops.Output bytes) = ⊥

-- a stop because this many bytes exceed a limit, or because there was no memory to count them
abbrev pub IsOutputStop : Option ℕ → ℕ → Stop → Type 0
IsOutputStop limit n (stops.Fault e) = e ≡ faults.Memory
IsOutputStop limit n (stops.Steps number total) = ⊥
IsOutputStop limit n (stops.Output bytes) = IsPast limit n × (bytes ≡ n)

-- the text that was read spells experiments that fit, and this is what `says` returns for them
abbrev pub MakesWithin : Limits → (List Experiment → List ℕ) → Option (List ℕ) → List ℕ → Type 0
MakesWithin limits says read text = (es : List Experiment) × Reads read es × Fits limits says es × (text ≡ says es)

-- this scenario runs for the one that the text that was read spells, and these are the reports of its experiments
pub record IsMade (format : Format) (read : Option (List ℕ)) (m : Made) : Type 0 where
  pub spelled : (es : List Experiment) × Reads read es × (m.scenario ≡ scenario_as format es)
  pub each : m.reports.items ≡ map made_alone m.scenario

-- the faults of a call that wrote nothing
abbrev pub FailsUnwritten : Option (List ℕ) → RunFault → Type 0
FailsUnwritten read (faults.Scenario f) = IfSome read (λ text. HasFault text f)
FailsUnwritten read faults.Write = ⊥
FailsUnwritten read _ = Unit {0}

-- why a call stops before it writes: such a fault, or experiments that exceed a limit
abbrev pub StopsUnwritten : Limits → (List Experiment → List ℕ) → Option (List ℕ) → Stop → Type 0
StopsUnwritten limits says read (stops.Fault e) = FailsUnwritten read e
StopsUnwritten limits says read (stops.Steps number total) = (es : List Experiment) × Reads read es × PassesSteps limits es number total
StopsUnwritten limits says read (stops.Output bytes) = (es : List Experiment) × Reads read es × PassesOutput limits says es bytes

-- a call that stops: it has written only if the writer failed, and then a prefix of an output that fits
abbrev pub StopsWithin : Limits → (List Experiment → List ℕ) → Option (List ℕ) → Option (List ℕ) → Option (List ℕ) → Stop → Type 0
StopsWithin limits says read old new (stops.Fault faults.Write) = (es : List Experiment) × Reads read es × Fits limits says es × IsCut old new (says es)
StopsWithin limits says read old new s = StopsUnwritten limits says read s × Keeps old new

-- a call that reads a scenario and writes what `says` returns for it, if it is within the limits: `read` was left to read, `old` was
-- written before it and `new` is after it
abbrev pub CallsWithin : Limits → (List Experiment → List ℕ) → Option (List ℕ) → Option (List ℕ) → Option (List ℕ) → Result (Unit {0}) Stop → Type 0
CallsWithin limits says read old new (Ok _) = (es : List Experiment) × Reads read es × Fits limits says es × Appends old new (says es)
CallsWithin limits says read old new (Err s) = StopsWithin limits says read old new s

-- a text was written; a prefix of it if the writer failed, and nothing if memory ran out
abbrev pub WritesOut : Option (List ℕ) → Option (List ℕ) → List ℕ → Result (Unit {0}) Stop → Type 0
WritesOut old new text (Ok _) = Appends old new text
WritesOut old new text (Err (stops.Fault faults.Write)) = IsCut old new text
WritesOut old new text (Err (stops.Fault faults.Memory)) = Keeps old new
WritesOut old new text (Err _) = ⊥

-- the result of a call, without its value
abbrev pub done_of : {T : Type 0} → Result T Stop → Result (Unit {0}) Stop
done_of (Ok x) = Ok tt
done_of (Err s) = Err s

-- no limit stopped the call
abbrev pub IsUnlimited : Result (Unit {0}) Stop → Type 0
IsUnlimited (Ok _) = Unit {0}
IsUnlimited (Err (stops.Fault e)) = Unit {0}
IsUnlimited (Err (stops.Steps number total)) = ⊥
IsUnlimited (Err (stops.Output bytes)) = ⊥

-- a stop by a limit leaves the reader and the writer as a failed allocation does
abbrev pub leaves : {T : Type 0} → Result T Stop → Result T RunFault
leaves (Ok x) = Ok x
leaves (Err (stops.Fault e)) = Err e
leaves (Err (stops.Steps number total)) = Err faults.Memory
leaves (Err (stops.Output bytes)) = Err faults.Memory

-- the stops that do not involve workers
abbrev pub IsOwnStop : Stop → Type 0
IsOwnStop (stops.Fault e) = IsOwnFault e
IsOwnStop (stops.Steps number total) = Unit {0}
IsOwnStop (stops.Output bytes) = Unit {0}
