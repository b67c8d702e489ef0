-- Each segment that is delivered is acknowledged by one packet, and nothing else is acknowledged (RFC 5681, section 4.2; that
-- this happens at once is our choice).
use Rattle.std.specs.Prelude.{◌≡◌, ℕ, ◌+◌, Bool, false, ◌==◌, List, count_by}
use Rattle.emu_model.specs.declared.packets.Load.{Load}
use Rattle.emu_model.specs.declared.packets.Load.TheVariants.{Seg, Ack}
use Rattle.emu_model.specs.declared.records.Record.{Record}
use Rattle.emu_model.specs.declared.records.Record.TheVariants.{PacketDelivered, PacketDropped}
use Rattle.emu_model.specs.declared.commands.Spec.{Spec}
use Rattle.emu_model.specs.declared.commands.Timed.{Timed}
use Rattle.emu_model.specs.TraceLaws.{held_packets}
use Rattle.emu_model.specs.Alone.{alone}

-- tests for a segment of flow k; `is_ack` tests for an acknowledgement of flow k
abbrev pub is_segment : ℕ → Load → Bool
is_segment k (Seg flow first) = flow == k
is_segment k l = false

abbrev pub is_ack : ℕ → Load → Bool
is_ack k (Ack flow upto) = flow == k
is_ack k l = false

-- tests for the delivery of a segment of flow k; `ends_ack` tests for the delivery or drop of an acknowledgement of flow k
abbrev pub brings_segment : ℕ → Record → Bool
brings_segment k (PacketDelivered moment packet load) = is_segment k load
brings_segment k r = false

abbrev pub ends_ack : ℕ → Record → Bool
ends_ack k (PacketDelivered moment packet load) = is_ack k load
ends_ack k (PacketDropped moment packet load cause) = is_ack k load
ends_ack k r = false

-- for each flow, as many acknowledgements are delivered, dropped or held as segments were delivered
abbrev pub AcksMatchSegments : Type 0
AcksMatchSegments = (spec : Spec) (c : List Timed) (n k : ℕ) →
    let net = (alone spec c n).net in
    count_by (ends_ack k) net.records + count_by (λ p. is_ack k p.load) (held_packets net)
    ≡ count_by (brings_segment k) net.records
