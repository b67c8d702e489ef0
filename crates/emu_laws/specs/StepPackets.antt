-- The packets of a step: those that are held when it begins, and one that it may create (our choice).
use Rattle.std.specs.Prelude.{◌≡◌, ℕ, Some, ◌⊎◌, List, ◌∷◌, ◌++◌}
use Rattle.emu_model.specs.declared.packets.Load.{Load}
use Rattle.emu_model.specs.declared.packets.Load.TheVariants.{Plain, Seg, Ack}
use Rattle.emu_model.specs.declared.packets.Packet.{Packet}
use Rattle.emu_model.specs.declared.sources.SendSpec.{SendSpec}
use Rattle.emu_model.specs.declared.sources.FlowSpec.{FlowSpec}
use Rattle.emu_model.specs.declared.commands.Command.{Command}
use Rattle.emu_model.specs.declared.commands.Command.TheVariants.{Inject}
use Rattle.emu_model.specs.declared.commands.Timed.{Timed}
use Rattle.emu_model.specs.Rules.{start_behind}
use Rattle.emu_model.specs.Net.{Net, FlowState, TrainState, find_flow, find_train, data_send, ack_send, packet_of}
use Rattle.emu_model.specs.TraceLaws.{held_packets}
use Rattle.emu_model.specs.Step.{State}

-- the next command is this one
pub record IsNext (command : Command) (s : State) : Type 0 where
  pub moment : ℕ
  pub later : List Timed
  pub is : s.left ≡ record { moment = moment; command = command } ∷ later

-- a train sends packets with this specification
pub record IsOfTrain (send : SendSpec) (n : Net) : Type 0 where
  pub number : ℕ
  pub train : TrainState
  pub there : find_train number n ≡ Some train
  pub sends : train.train.packet ≡ send

-- flow k sends packets with this specification, in this direction
pub record IsOfFlow (direction : FlowSpec → SendSpec) (k : ℕ) (send : SendSpec) (n : Net) : Type 0 where
  pub flow : FlowState
  pub there : find_flow k n ≡ Some flow
  pub sends : direction flow.flow ≡ send

-- the packets that a step may send: those of the next command, a train or a flow
abbrev pub MaySend : State → Load → SendSpec → Type 0
MaySend s Plain send = IsNext (Inject send) s ⊎ IsOfTrain send s.net
MaySend s (Seg k first) send = IsOfFlow data_send k send s.net
MaySend s (Ack k upto) send = IsOfFlow ack_send k send s.net

pub record IsIn (p : Packet) (ps : List Packet) : Type 0 where
  pub before : List Packet
  pub after : List Packet
  pub is : ps ≡ before ++ p ∷ after

-- a packet that the step may create
pub record IsMade (s : State) (p : Packet) : Type 0 where
  pub load : Load
  pub send : SendSpec
  pub is : p ≡ packet_of load send s.net.made
  pub sent : MaySend s load send

-- a packet that is held when the step begins, or that the step may create
abbrev pub IsOfStep : State → Packet → Type 0
IsOfStep s p = IsIn p (held_packets s.net) ⊎ IsMade s p

-- a packet enters the rules at a place: after the rule that sent it into a pipe, if it was held, or at the first rule, if it
-- is created
abbrev pub EntersRules : State → ℕ → Packet → Type 0
EntersRules s start p =
    (IsIn p (held_packets s.net) × (start ≡ start_behind p.place s.net.book.rules)) ⊎ (IsMade s p × (start ≡ 0))
