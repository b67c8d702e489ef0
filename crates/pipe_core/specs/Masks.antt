-- Masks, and the flow identifiers under them.
use Rattle.std.specs.Prelude.{◌≡◌, ℕ, ◌<◌, ◌≤◌, Bool, true, Some, List, length}
use Rattle.std.specs.List.{All}
use Rattle.emu_model.specs.declared.packets.Packet.{Packet}
use Rattle.emu_model.specs.declared.pipes.Mask.{Mask}
use Rattle.emu_model.specs.FlowIds.{FlowId, flow_id, instance_of}
use Rattle.pipe_core.specs.declared.slot.Slot.{Slot}
use Rattle.pipe_core.specs.Keyed.{ids_of}

-- the identifier is that of some packet under this mask
abbrev pub IsUnder : Mask → FlowId → Type 0
IsUnder mask id = (packet : Packet) × (id ≡ flow_id mask packet)

-- all fields of the mask are 0, so all packets have one identifier
abbrev pub IsZero : Mask → Type 0
IsZero m = (m.proto ≡ 0) × (m.src ≡ 0) × (m.dst ≡ 0) × (m.sport ≡ 0) × (m.dport ≡ 0)

-- if `unmasked` is true, the mask is zero; each identifier is that of some packet under the mask
pub record IsMasked (unmasked : Bool) (mask : Mask) (ids : List FlowId) : Type 0 where
  pub zero : unmasked ≡ true → IsZero mask
  pub each : All (IsUnder mask) ids

-- each identifier that has an instance keeps it
pub record KeepsIds (old new : List Slot) : Type 0 where
  pub long : length old ≤ length new
  pub each : (id : FlowId) (k : ℕ) → k < length old → instance_of (ids_of old) id ≡ Some k →
      instance_of (ids_of new) id ≡ Some k
