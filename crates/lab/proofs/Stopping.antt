-- Why a run within limits stops, and what that is to a run without them.
use Rattle.std.proofs.Common.{◌≡◌, ℕ, List, Bool, true, false, Option, Some, Result, Ok, Err, refl, ap, subst}
use Rattle.control.specs.declared.scenario.Experiment.{Experiment}
use Rattle.alone.specs.declared.fault.RunFault.{RunFault}
use Rattle.alone.specs.declared.fault.RunFault.TheVariants.{Scenario, Read, Write, Memory, Strange, Gate}
use Rattle.alone.specs.declared.limits.Stop.{Stop}
use Rattle.alone.specs.declared.limits.Stop.TheVariants.{Fault, Steps, Output}
use Rattle.alone.specs.declared.limits.Limits.{Limits}
use Rattle.alone.specs.Reports.{IsInputFault, IsTextFault, reader_failed}
use Rattle.alone.specs.Within.{IsOutputStop, IsStepsStop, StopsUnwritten, WritesOut, done_of, leaves}
use Rattle.lab.specs.Plans.{IsTogetherFault}

-- a gate alone has a run end by it
pub out_not_gate : (a b : Option (List ℕ)) (text : List ℕ) (s : Stop) → WritesOut a b text (Err s) → s ≡ Fault Gate → ⊥
out_not_gate a b text s out is = subst (λ (x : Stop). WritesOut a b text (Err x)) is out

pub input_not_gate : (e : RunFault) → IsInputFault e → ◌≡◌ {A = Stop} (Fault e) (Fault Gate) → ⊥
input_not_gate (Scenario f) fault is = cc
input_not_gate Read fault is = cc
input_not_gate Write fault is = cc
input_not_gate Memory fault is = cc
input_not_gate Strange fault is = cc
input_not_gate Gate fault is = fault

pub text_not_gate : (text : List ℕ) (e : RunFault) → IsTextFault text e → ◌≡◌ {A = Stop} (Fault e) (Fault Gate) → ⊥
text_not_gate text (Scenario f) fault is = cc
text_not_gate text Read fault is = cc
text_not_gate text Write fault is = cc
text_not_gate text Memory fault is = cc
text_not_gate text Strange fault is = cc
text_not_gate text Gate fault is = fault

pub steps_not_gate : (limits : Limits) (es : List Experiment) (s : Stop) → IsStepsStop limits es s → s ≡ Fault Gate → ⊥
steps_not_gate limits es s stop is = subst (λ (x : Stop). IsStepsStop limits es x) is stop

pub output_not_gate : (limit : Option ℕ) (n : ℕ) (s : Stop) → IsOutputStop limit n s → s ≡ Fault Gate → ⊥
output_not_gate limit n (Fault e) stop is = cc
output_not_gate limit n (Steps number total) stop is = cc
output_not_gate limit n (Output bytes) stop is = cc

-- a fault of the workers
pub together_stop : (may_refuse : Bool) (limits : Limits) (says : List Experiment → List ℕ) (text : List ℕ) (e : RunFault) → IsTogetherFault may_refuse e → StopsUnwritten limits says (Some text) (Fault e)
together_stop may_refuse limits says text (Scenario f) fault = absurd (cc)
together_stop may_refuse limits says text Read fault = tt
together_stop may_refuse limits says text Write fault = absurd (cc)
together_stop may_refuse limits says text Memory fault = tt
together_stop may_refuse limits says text Strange fault = tt
together_stop may_refuse limits says text Gate fault = tt

pub together_unread : (T : Type 0) (may_refuse : Bool) (e : RunFault) → IsTogetherFault may_refuse e → reader_failed (leaves {T = T} (Err (Fault e))) ≡ false
together_unread T may_refuse (Scenario f) fault = refl
together_unread T may_refuse Read fault = absurd (cc)
together_unread T may_refuse Write fault = refl
together_unread T may_refuse Memory fault = refl
together_unread T may_refuse Strange fault = refl
together_unread T may_refuse Gate fault = refl

-- without limits
err-is : (a b : RunFault) → ◌≡◌ {A = Result (Unit {0}) RunFault} (Err a) (Err b) → a ≡ b
err-is a b is = cc

pub gate_same : {T : Type 0} (may_refuse : Bool) (r : Result T Stop) → (r ≡ Err (Fault Gate) → may_refuse ≡ true) → leaves (done_of r) ≡ Err Gate → may_refuse ≡ true
gate_same may_refuse (Ok x) gate is = absurd (cc)
gate_same may_refuse (Err (Fault e)) gate is = gate (ap (λ (x : RunFault). Err (Fault x)) (err-is e Gate is))
gate_same may_refuse (Err (Steps number total)) gate is = absurd (cc)
gate_same may_refuse (Err (Output bytes)) gate is = absurd (cc)
