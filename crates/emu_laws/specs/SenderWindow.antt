-- A sender keeps to the receiver's window (RFC 5681, section 3.1: it sends no more than the smaller of cwnd and rwnd allows).
use Rattle.std.specs.Prelude.{◌≡◌, ◌≢◌, ℕ, ◌+◌, ◌<◌, ◌≤◌, min, true, false, ◌⊎◌, Some, None, List}
use Rattle.std.specs.List.{AllByRecursion}
use Rattle.emu_model.specs.declared.sources.Class.TheVariants.{Emission}
use Rattle.emu_model.specs.declared.commands.Spec.{Spec}
use Rattle.emu_model.specs.declared.commands.Timed.{Timed}
use Rattle.emu_model.specs.Reno.{flight_size, total_bytes}
use Rattle.emu_model.specs.Net.{FlowState, find_flow, find_train}
use Rattle.emu_model.specs.Dues.{flow_dues}
use Rattle.emu_model.specs.Step.{next_event}
use Rattle.emu_model.specs.Alone.{alone}

abbrev pub most_flight : FlowState → ℕ
most_flight f = f.flow.rwnd

-- in every state the bytes that a flow has sent and that are not acknowledged are at most the receiver's window
abbrev pub FlightFitsWindow : Type 0
FlightFitsWindow = (spec : Spec) (c : List Timed) (n : ℕ) →
    AllByRecursion (λ f. flight_size f.sender ≤ most_flight f) (alone spec c n).net.flows

-- the end of the smaller of cwnd and rwnd, counted from the first unacknowledged byte
abbrev pub window_end : FlowState → ℕ
window_end f = f.sender.snd_una + min f.sender.cwnd f.flow.rwnd

-- if the next event is a flow's segment at `snd_nxt`, it ends at `window_end` at the latest; a segment that is sent again
-- because of `resend` ignores both windows
abbrev pub NewDataFitsWindows : Type 0
NewDataFitsWindows = (spec : Spec) (c : List Timed) (n : ℕ) (t : Timed) (f : FlowState) →
    let s = alone spec c n in
    let source = (next_event s t).source in
    source.class ≡ Emission → find_train source.number s.net ≡ None → find_flow source.number s.net ≡ Some f →
    f.sender.resend ≡ false →
    f.sender.snd_nxt + f.flow.smss ≤ window_end f

-- in every state a flow that is stopped or fully acknowledged has no segment due
abbrev pub DoneFlowsAreSilent : Type 0
DoneFlowsAreSilent = (spec : Spec) (c : List Timed) (n : ℕ) →
    AllByRecursion (λ f. (f.stopped ≡ true) ⊎ (f.sender.snd_una ≡ total_bytes f.flow) →
    AllByRecursion (λ d. d.source.class ≢ Emission) (flow_dues (alone spec c n).clock f))
    (alone spec c n).net.flows

-- in every state `snd_una`, `snd_nxt` and `snd_max` are in this order, and none is beyond the flow's bytes
abbrev pub SequenceIsInOrder : Type 0
SequenceIsInOrder = (spec : Spec) (c : List Timed) (n : ℕ) →
    AllByRecursion (λ f. (f.sender.snd_una ≤ f.sender.snd_nxt) × (f.sender.snd_nxt ≤ f.sender.snd_max)
    × (f.sender.snd_max ≤ total_bytes f.flow)) (alone spec c n).net.flows

abbrev pub IsTooSmall : FlowState → Type 0
IsTooSmall f = f.flow.rwnd < f.flow.smss

-- a flow whose segments are larger than the receiver's window never sends
abbrev pub TooSmallWindowSendsNothing : Type 0
TooSmallWindowSendsNothing = (spec : Spec) (c : List Timed) (n : ℕ) →
    AllByRecursion (λ f. IsTooSmall f → f.sender.snd_max ≡ 0) (alone spec c n).net.flows
