-- Why a call within limits stops, and what that is to a call without them.
use Rattle.std.proofs.Common.{◌≡◌, ◌≢◌, ℕ, ◌+◌, List, length, map, take, Bool, true, false, Option, Some, None, Result, Ok, Err, IfErr, refl, sym, ap, subst, ◌∙◌}
use Rattle.std.specs.Io.KnownBytes.{Appends}
use Rattle.control.specs.declared.scenario.Experiment.{Experiment}
use Rattle.control.specs.Scenario.{Spells}
use Rattle.alone.specs.declared.fault.RunFault.{RunFault}
use Rattle.alone.specs.declared.fault.RunFault.TheVariants.{Scenario, Read, Write, Memory, Strange, Gate}
use Rattle.alone.specs.declared.limits.Limits.{Limits}
use Rattle.alone.specs.declared.limits.Stop.{Stop}
use Rattle.alone.specs.declared.limits.Stop.TheVariants.{Fault, Steps, Output}
use Rattle.alone.specs.Bytes.{IsCut, IsRead}
use Rattle.experiment.specs.Written.{KeptReport}
use Rattle.alone.specs.declared.limits.Format.{Format}
use Rattle.alone.specs.Reports.{bytes_as, made_alone, output_as, scenario_as, Calls, IsInputFault, IsOwnFault, IsTextFault, reader_failed}
use Rattle.alone.specs.Within.{CallsWithin, FailsUnwritten, IsOutputStop, IsOwnStop, IsPast, IsStepsStop, IsUnlimited, IsWithin, MakesWithin, StopsUnwritten, WritesOut, done_of, leaves, steps_of}
use Rattle.alone.proofs.Endings.{same-output}
use Rattle.alone.proofs.ReadFacts.{read_spells, read_faults}
use Rattle.alone.proofs.Writing.{keeps_same}

-- a fault of the text
pub text_stop : (limits : Limits) (says : List Experiment → List ℕ) (text : List ℕ) (e : RunFault) → IsTextFault text e → StopsUnwritten limits says (Some text) (Fault e)
text_stop limits says text (Scenario f) fault = fault
text_stop limits says text Read fault = absurd fault
text_stop limits says text Write fault = absurd fault
text_stop limits says text Memory fault = tt
text_stop limits says text Strange fault = absurd fault
text_stop limits says text Gate fault = absurd fault

pub text_fault_own : (text : List ℕ) (e : RunFault) → IsTextFault text e → IsOwnFault e
text_fault_own text (Scenario f) fault = tt
text_fault_own text Read fault = absurd fault
text_fault_own text Write fault = absurd fault
text_fault_own text Memory fault = tt
text_fault_own text Strange fault = absurd fault
text_fault_own text Gate fault = absurd fault

pub text_own : (text : List ℕ) (e : RunFault) → IsTextFault text e → IsOwnStop (Fault e)
text_own text e fault = text_fault_own text e fault

pub text_fault_unread : (T : Type 0) (text : List ℕ) (e : RunFault) → IsTextFault text e → reader_failed {T = T} (Err e) ≡ false
text_fault_unread T text (Scenario f) fault = refl
text_fault_unread T text Read fault = absurd fault
text_fault_unread T text Write fault = absurd fault
text_fault_unread T text Memory fault = refl
text_fault_unread T text Strange fault = absurd fault
text_fault_unread T text Gate fault = absurd fault

pub text_unread : (T : Type 0) (text : List ℕ) (e : RunFault) → IsTextFault text e → reader_failed (leaves {T = T} (Err (Fault e))) ≡ false
text_unread T text e fault = text_fault_unread T text e fault

pub text_calls : (says : List Experiment → List ℕ) (text : List ℕ) (a : Option (List ℕ)) (e : RunFault) → IsTextFault text e → Calls says (Some text) a a (Err e)
text_calls says text a (Scenario f) fault = (fault, keeps_same a)
text_calls says text a Read fault = absurd fault
text_calls says text a Write fault = absurd fault
text_calls says text a Memory fault = keeps_same a
text_calls says text a Strange fault = absurd fault
text_calls says text a Gate fault = absurd fault

-- a fault of the reader
pub input_own_fault : (e : RunFault) → IsInputFault e → IsOwnFault e
input_own_fault (Scenario f) fault = absurd fault
input_own_fault Read fault = tt
input_own_fault Write fault = absurd fault
input_own_fault Memory fault = tt
input_own_fault Strange fault = absurd fault
input_own_fault Gate fault = absurd fault

pub input_own : (e : RunFault) → IsInputFault e → IsOwnStop (Fault e)
input_own e fault = input_own_fault e fault

pub input_calls : (says : List Experiment → List ℕ) (read a : Option (List ℕ)) (e : RunFault) → IsInputFault e → Calls says read a a (Err e)
input_calls says read a (Scenario f) fault = absurd fault
input_calls says read a Read fault = keeps_same a
input_calls says read a Write fault = absurd fault
input_calls says read a Memory fault = keeps_same a
input_calls says read a Strange fault = absurd fault
input_calls says read a Gate fault = absurd fault

pub read_calls : (limits : Limits) (says : List Experiment → List ℕ) (read a : Option (List ℕ)) (e : RunFault) → IsInputFault e → CallsWithin limits says read a a (Err (Fault e))
read_calls limits says read a (Scenario f) fault = absurd fault
read_calls limits says read a Read fault = (tt, keeps_same a)
read_calls limits says read a Write fault = absurd fault
read_calls limits says read a Memory fault = (tt, keeps_same a)
read_calls limits says read a Strange fault = absurd fault
read_calls limits says read a Gate fault = absurd fault

-- steps past their limit
pub steps_stop : (limits : Limits) (says : List Experiment → List ℕ) (text : List ℕ) (es plans : List Experiment) (s : Stop) → Spells text es → plans ≡ es →
    IsStepsStop limits plans s → StopsUnwritten limits says (Some text) s
steps_stop limits says text es plans (Fault e) spells are stop = absurd stop
steps_stop limits says text es plans (Steps number total) spells are stop = (plans, subst (Spells text) (sym are) spells, stop)
steps_stop limits says text es plans (Output bytes) spells are stop = absurd stop

pub steps_unread : (T : Type 0) (limits : Limits) (es : List Experiment) (s : Stop) → IsStepsStop limits es s → reader_failed (leaves {T = T} (Err s)) ≡ false
steps_unread T limits es (Fault e) stop = absurd stop
steps_unread T limits es (Steps number total) stop = refl
steps_unread T limits es (Output bytes) stop = absurd stop

pub steps_own : (limits : Limits) (es : List Experiment) (s : Stop) → IsStepsStop limits es s → IsOwnStop s
steps_own limits es (Fault e) stop = absurd stop
steps_own limits es (Steps number total) stop = tt
steps_own limits es (Output bytes) stop = absurd stop

-- reports past theirs
pub output_stop : (limits : Limits) (text : List ℕ) (es plans : List Experiment) (format : Format) (rs : List KeptReport) (s : Stop) → Spells text es → plans ≡ scenario_as format es →
    IsWithin limits.steps (steps_of es) → rs ≡ map made_alone plans →
    IsOutputStop limits.output (length (bytes_as format rs)) s → StopsUnwritten limits (output_as format) (Some text) s
output_stop limits text es plans format rs (Fault e) spells are fits made stop = subst (FailsUnwritten (Some text)) (sym stop) tt
output_stop limits text es plans format rs (Steps number total) spells are fits made stop = absurd stop
output_stop limits text es plans format rs (Output bytes) spells are fits made stop = (
  es,
  spells,
  record {
    steps = fits;
    output = subst (IsPast limits.output) (sym stop.1) stop.0;
    counted = stop.1 ∙ ap length (same-output format es plans rs are made);
  },
)

pub output_own : (limit : Option ℕ) (n : ℕ) (s : Stop) → IsOutputStop limit n s → IsOwnStop s
output_own limit n (Fault e) stop = subst IsOwnFault (sym stop) tt
output_own limit n (Steps number total) stop = absurd stop
output_own limit n (Output bytes) stop = tt

pub output_unread : (T : Type 0) (limit : Option ℕ) (n : ℕ) (s : Stop) → IsOutputStop limit n s → reader_failed (leaves {T = T} (Err s)) ≡ false
output_unread T limit n (Fault e) stop = ap (λ (x : RunFault). reader_failed {T = T} (Err x)) stop
output_unread T limit n (Steps number total) stop = absurd stop
output_unread T limit n (Output bytes) stop = refl

-- neither
pub made_within : (limits : Limits) (text : List ℕ) (es plans : List Experiment) (format : Format) (rs : List KeptReport) → Spells text es → plans ≡ scenario_as format es →
    IsWithin limits.steps (steps_of es) → rs ≡ map made_alone plans →
    IsWithin limits.output (length (bytes_as format rs)) → MakesWithin limits (output_as format) (Some text) (bytes_as format rs)
made_within limits text es plans format rs spells are fits made few =
    let same = same-output format es plans rs are made in (
      es,
      spells,
      record { steps = fits; output = subst (λ l. IsWithin limits.output (length l)) same few },
      same,
    )

-- a call that wrote nothing
pub stop_calls : (limits : Limits) (says : List Experiment → List ℕ) (read a : Option (List ℕ)) (s : Stop) → StopsUnwritten limits says read s → CallsWithin limits says read a a (Err s)
stop_calls limits says read a (Fault (Scenario f)) stop = (stop, keeps_same a)
stop_calls limits says read a (Fault Read) stop = (stop, keeps_same a)
stop_calls limits says read a (Fault Write) stop = absurd stop
stop_calls limits says read a (Fault Memory) stop = (stop, keeps_same a)
stop_calls limits says read a (Fault Strange) stop = (stop, keeps_same a)
stop_calls limits says read a (Fault Gate) stop = (stop, keeps_same a)
stop_calls limits says read a (Steps number total) stop = (stop, keeps_same a)
stop_calls limits says read a (Output bytes) stop = (stop, keeps_same a)

-- a call that wrote what it made, or its beginning
pub out_calls : (limits : Limits) (says : List Experiment → List ℕ) (read a b : Option (List ℕ)) (text : List ℕ) (r : Result (Unit {0}) Stop) → MakesWithin limits says read text → WritesOut a b text r → CallsWithin limits says read a b r
out_calls limits says read a b text (Ok x) (es, reads, fits, is) out = (es, reads, fits, subst (Appends a b) is out)
out_calls limits says read a b text (Err (Fault (Scenario f))) made out = absurd out
out_calls limits says read a b text (Err (Fault Read)) made out = absurd out
out_calls limits says read a b text (Err (Fault Write)) (es, reads, fits, is) out = (es, reads, fits, subst (IsCut a b) is out)
out_calls limits says read a b text (Err (Fault Memory)) made out = (tt, out)
out_calls limits says read a b text (Err (Fault Strange)) made out = absurd out
out_calls limits says read a b text (Err (Fault Gate)) made out = absurd out
out_calls limits says read a b text (Err (Steps number total)) made out = absurd out
out_calls limits says read a b text (Err (Output bytes)) made out = absurd out

-- what holds of the text that was read holds of what was left to read
calls_read : (limits : Limits) (says : List Experiment → List ℕ) (old new a b : Option (List ℕ)) (text : List ℕ) (r : Result (Unit {0}) Stop) → IsRead old new text →
    CallsWithin limits says (Some text) a b r → CallsWithin limits says old a b r
calls_read limits says old new a b text (Ok x) is (es, spells, fits, out) = (es, read_spells old new text es is spells, fits, out)
calls_read limits says old new a b text (Err (Fault (Scenario f))) is (fault, keeps) = (read_faults old new text f is fault, keeps)
calls_read limits says old new a b text (Err (Fault Read)) is calls = calls
calls_read limits says old new a b text (Err (Fault Write)) is (es, spells, fits, out) = (es, read_spells old new text es is spells, fits, out)
calls_read limits says old new a b text (Err (Fault Memory)) is calls = calls
calls_read limits says old new a b text (Err (Fault Strange)) is calls = calls
calls_read limits says old new a b text (Err (Fault Gate)) is calls = calls
calls_read limits says old new a b text (Err (Steps number total)) is ((es, spells, stop), keeps) = ((es, read_spells old new text es is spells, stop), keeps)
calls_read limits says old new a b text (Err (Output bytes)) is ((es, spells, stop), keeps) = ((es, read_spells old new text es is spells, stop), keeps)

pub stop_calls_read : (limits : Limits) (says : List Experiment → List ℕ) (old new a : Option (List ℕ)) (text : List ℕ) (s : Stop) → IsRead old new text →
    StopsUnwritten limits says (Some text) s → CallsWithin limits says old a a (Err s)
stop_calls_read limits says old new a text s is stop = calls_read limits says old new a a text (Err s) is (stop_calls limits says (Some text) a s stop)

pub out_calls_read : (limits : Limits) (says : List Experiment → List ℕ) (old new a b : Option (List ℕ)) (text out : List ℕ) (r : Result (Unit {0}) Stop) → IsRead old new text →
    MakesWithin limits says (Some text) out → WritesOut a b out r → CallsWithin limits says old a b r
out_calls_read limits says old new a b text out r is made wrote =
    calls_read limits says old new a b text r is (out_calls limits says (Some text) a b out r made wrote)

pub read_calls_of : (says : List Experiment → List ℕ) (old new a b : Option (List ℕ)) (text : List ℕ) (r : Result (Unit {0}) RunFault) → IsRead old new text →
    Calls says (Some text) a b r → Calls says old a b r
read_calls_of says old new a b text (Ok x) is (es, spells, out) = (es, read_spells old new text es is spells, out)
read_calls_of says old new a b text (Err (Scenario f)) is (fault, keeps) = (read_faults old new text f is fault, keeps)
read_calls_of says old new a b text (Err Read) is calls = calls
read_calls_of says old new a b text (Err Write) is (es, spells, out) = (es, read_spells old new text es is spells, out)
read_calls_of says old new a b text (Err Memory) is calls = calls
read_calls_of says old new a b text (Err Strange) is calls = calls
read_calls_of says old new a b text (Err Gate) is calls = calls

-- without limits
pub unlimited_calls : (limits : Limits) (says : List Experiment → List ℕ) (read a b : Option (List ℕ)) (r : Result (Unit {0}) Stop) → limits.steps ≡ None → limits.output ≡ None →
    CallsWithin limits says read a b r → IsUnlimited r
unlimited_calls limits says read a b (Ok x) nosteps nooutput calls = tt
unlimited_calls limits says read a b (Err (Fault e)) nosteps nooutput calls = tt
unlimited_calls limits says read a b (Err (Steps number total)) nosteps nooutput ((es, reads, stop), keeps) =
    subst (λ (o : Option ℕ). IsPast o (steps_of (take (number + 1) es))) nosteps stop.past
unlimited_calls limits says read a b (Err (Output bytes)) nosteps nooutput ((es, reads, stop), keeps) =
    subst (λ (o : Option ℕ). IsPast o bytes) nooutput stop.output

pub calls_same : (limits : Limits) (says : List Experiment → List ℕ) (read a b : Option (List ℕ)) (r : Result (Unit {0}) Stop) → CallsWithin limits says read a b r → Calls says read a b (leaves r)
calls_same limits says read a b (Ok x) (es, reads, fits, all) = (es, reads, all)
calls_same limits says read a b (Err (Fault (Scenario f))) calls = calls
calls_same limits says read a b (Err (Fault Read)) calls = calls.1
calls_same limits says read a b (Err (Fault Write)) (es, reads, fits, cut) = (es, reads, cut)
calls_same limits says read a b (Err (Fault Memory)) calls = calls.1
calls_same limits says read a b (Err (Fault Strange)) calls = calls.1
calls_same limits says read a b (Err (Fault Gate)) calls = calls.1
calls_same limits says read a b (Err (Steps number total)) calls = calls.1
calls_same limits says read a b (Err (Output bytes)) calls = calls.1

pub own_same : {T : Type 0} (r : Result T Stop) → IfErr r IsOwnStop → IfErr (leaves (done_of r)) IsOwnFault
own_same (Ok x) own = tt
own_same (Err (Fault e)) own = own
own_same (Err (Steps number total)) own = tt
own_same (Err (Output bytes)) own = tt

-- the text that was read is what the reader gave
pub given_within : {A : Type 0} (gives : A → List ℕ → A → Type 0) (first now : A) (limits : Limits) (says : List Experiment → List ℕ) (a b : Option (List ℕ)) (text : List ℕ) (r : Result (Unit {0}) Stop) →
    ((bytes : List ℕ) × gives first bytes now × (text ≡ bytes)) → CallsWithin limits says (Some text) a b r → (bytes : List ℕ) × gives first bytes now × CallsWithin limits says (Some bytes) a b r
given_within gives first now limits says a b text r (bytes, gave, is) calls = (bytes, gave, subst (λ (l : List ℕ). CallsWithin limits says (Some l) a b r) is calls)

pub given_calls : {A : Type 0} (gives : A → List ℕ → A → Type 0) (first now : A) (says : List Experiment → List ℕ) (a b : Option (List ℕ)) (text : List ℕ) (r : Result (Unit {0}) RunFault) →
    ((bytes : List ℕ) × gives first bytes now × (text ≡ bytes)) → Calls says (Some text) a b r → (bytes : List ℕ) × gives first bytes now × Calls says (Some bytes) a b r
given_calls gives first now says a b text r (bytes, gave, is) calls = (bytes, gave, subst (λ (l : List ℕ). Calls says (Some l) a b r) is calls)
