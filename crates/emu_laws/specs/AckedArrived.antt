-- Acknowledged data has arrived (RFC 5681, section 4.2; RFC 9293, section 3.4: an acknowledgement has the number of the next
-- byte that is expected).
use Rattle.std.specs.Prelude.{◌≡◌, ℕ, ◌≤◌, Some, List}
use Rattle.std.specs.List.{AllByRecursion}
use Rattle.emu_model.specs.declared.packets.Load.TheVariants.{Ack}
use Rattle.emu_model.specs.declared.packets.Packet.{Packet}
use Rattle.emu_model.specs.declared.commands.Spec.{Spec}
use Rattle.emu_model.specs.declared.commands.Timed.{Timed}
use Rattle.emu_model.specs.Reno.{missing}
use Rattle.emu_model.specs.Net.{Net, FlowState, find_flow}
use Rattle.emu_model.specs.TraceLaws.{held_packets}
use Rattle.emu_model.specs.Alone.{alone}

-- the first byte that is missing at the receiver of a flow
abbrev pub first_missing : FlowState → ℕ
first_missing f = missing f.flow.smss f.came

-- if a packet is an acknowledgement, it acknowledges at most the bytes below the first missing one
abbrev pub SaysWhatCame : Net → Packet → Type 0
SaysWhatCame n p = (k upto : ℕ) (f : FlowState) → p.load ≡ Ack k upto → find_flow k n ≡ Some f →
    upto ≤ first_missing f

-- in a state: the bytes that a sender takes as acknowledged have arrived, and so have those that are acknowledged by packets
-- that wait, are in service or are in a delay line
pub record AckedHasArrivedIn (n : Net) : Type 0 where
  pub taken : AllByRecursion (λ f. f.sender.snd_una ≤ first_missing f) n.flows
  pub under_way : AllByRecursion (SaysWhatCame n) (held_packets n)

abbrev pub AckedHasArrived : Type 0
AckedHasArrived = (spec : Spec) (c : List Timed) (n : ℕ) → AckedHasArrivedIn (alone spec c n).net
