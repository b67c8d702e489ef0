-- The packets that sources send, and when they are due.
use Rattle.std.specs.Prelude.{◌≡◌, ℕ, Bool, true, false, nat_lt, if◌then◌else◌, Option, Some, option_map, List, ◌++◌, flat_map}
use Rattle.std.specs.Option.{option_map_or}
use Rattle.emu_model.specs.declared.sources.SendSpec.{SendSpec}
use Rattle.emu_model.specs.declared.sources.Due.{Due}
use Rattle.emu_model.specs.declared.sources.Class.TheVariants.{Expiry, Emission}
use Rattle.emu_model.specs.Reno.{may_emit}
use Rattle.emu_model.specs.Net.{Net, FlowState, TrainState, find_flow, find_train, data_send, ack_send}
use Rattle.emu_model.specs.Dues.{flow_dues, train_dues}
use Rattle.sources.specs.Kept.{KeptTraffic, with_traffic, IsNumber}

-- a flow that is not stopped, and may send a segment
abbrev pub may_send : FlowState → Bool
may_send f = if f.stopped then false else may_emit f.flow f.sender

-- a train that has packets left
abbrev pub has_left : TrainState → Bool
has_left t = nat_lt t.sent t.train.count

-- the source with this number may send
abbrev pub is_emitting : ℕ → Net → Bool
is_emitting k n =
    option_map_or has_left (find_train k n) (option_map_or may_send (find_flow k n) false)

abbrev pub IsEmitting : ℕ → KeptTraffic → Type 0
IsEmitting k t = (n : Net) → is_emitting k (with_traffic t n) ≡ true

-- a due that, if it is an emission, is that of a source that may send
abbrev pub IsAllowed : KeptTraffic → Due → Type 0
IsAllowed t d = d.source.class ≡ Emission → IsEmitting d.source.number t

-- a due that, if it is an expiry or an emission, has a number in the range of sources
abbrev pub IsNumbered : Due → Type 0
IsNumbered d =
    (d.source.class ≡ Expiry → IsNumber d.source.number)
    × (d.source.class ≡ Emission → IsNumber d.source.number)

-- the header of the next packet of the source with this number
abbrev pub next_send : ℕ → Net → Option SendSpec
next_send k n =
    option_map_or (λ t. Some t.train.packet) (find_train k n)
    (option_map (λ f. data_send f.flow) (find_flow k n))

-- the header of the acknowledgements of this flow's receiver
abbrev pub reply_send : ℕ → Net → Option SendSpec
reply_send k n = option_map (λ f. ack_send f.flow) (find_flow k n)

-- the dues of all flows and trains
abbrev pub source_dues : ℕ → Net → List Due
source_dues clock n = flat_map (flow_dues clock) n.flows ++ flat_map train_dues n.trains
