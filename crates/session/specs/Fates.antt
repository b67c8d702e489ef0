-- The fate of injected packets, and what is reported of it (our choice).
use Rattle.std.specs.Prelude.{◌≡◌, ℕ, Bool, true, false, List, [], ◌∷◌, Option, Some, None, if◌then◌else◌}
use Rattle.emu_model.specs.declared.commands.Command.{Command}
use Rattle.emu_model.specs.declared.commands.Command.TheVariants.{Inject}
use Rattle.emu_model.specs.declared.packets.Load.{Load}
use Rattle.emu_model.specs.declared.packets.Load.TheVariants.{Plain}
use Rattle.emu_model.specs.declared.records.Record.{Record}
use Rattle.emu_model.specs.declared.records.Record.TheVariants.{PacketDelivered, PacketDropped, CommandRefused, StepsSpent, RuleLine, PipeLine, InstanceLine}
use Rattle.emu_model.specs.declared.records.Refusal.{Refusal}
use Rattle.emu_model.specs.declared.records.Refusal.TheVariants.{BadNumber, BadSkip, RulesFull, NoRule, NoSuchPipe, MaskFixed, FlowThere, NoFlow, TooManyPipes, TooManyFlows}
use Rattle.session.specs.Marking.{Marks, MarksOne, is_marked}
use Rattle.session.specs.declared.fates.Stop.{Stop}
use Rattle.session.specs.declared.fates.Stop.TheVariants.{Moment, Mine, Any}
use Rattle.session.specs.declared.fates.Taken.{Taken}
use Rattle.session.specs.declared.fates.Taken.TheVariants.{Done, Packet, Refused}

-- an injected packet without a load
abbrev pub is_mine : Marks → Load → ℕ → Bool
is_mine mine Plain packet = is_marked mine packet
is_mine mine _ packet = false

-- a record of the delivery or drop of an injected packet
abbrev pub is_fate_of : Marks → Record → Bool
is_fate_of mine (PacketDelivered moment packet load) = is_mine mine load packet
is_fate_of mine (PacketDropped moment packet load cause) = is_mine mine load packet
is_fate_of mine _ = false

-- a record of the delivery or drop of any packet
abbrev pub is_fate : Record → Bool
is_fate (PacketDelivered moment packet load) = true
is_fate (PacketDropped moment packet load cause) = true
is_fate _ = false

-- a record that is also reported after `show mine`
abbrev pub concerns : Marks → Record → Bool
concerns mine (PacketDelivered moment packet load) = is_mine mine load packet
concerns mine (PacketDropped moment packet load cause) = is_mine mine load packet
concerns mine (CommandRefused moment command refusal) = true
concerns mine (StepsSpent moment) = true
concerns mine (RuleLine rule packets bytes) = true
concerns mine (PipeLine pipe config) = true
concerns mine (InstanceLine pipe instance waiting bytes busy in_flight drawn) = true
concerns mine _ = false

-- how long after its time (ns) a record stops time, if it does
abbrev pub hold_of : Marks → Stop → Record → Option ℕ
hold_of mine Moment r = None
hold_of mine (Mine hold) r = if is_fate_of mine r then Some hold else None
hold_of mine (Any hold) r = if is_fate r then Some hold else None

abbrev pub hold_or : Option ℕ → Option ℕ → Option ℕ
hold_or (Some hold) other = Some hold
hold_or None other = other

-- the hold of the first of these records that stops time, if there is one
abbrev pub first_hold : Marks → Stop → List Record → Option ℕ
first_hold mine stop [] = None
first_hold mine stop (r ∷ rs) = hold_or (hold_of mine stop r) (first_hold mine stop rs)

-- ---- the outcome of a command
abbrev pub refusal_code : Refusal → ℕ
refusal_code BadNumber = 10
refusal_code BadSkip = 11
refusal_code RulesFull = 12
refusal_code NoRule = 13
refusal_code NoSuchPipe = 20
refusal_code MaskFixed = 21
refusal_code FlowThere = 22
refusal_code NoFlow = 23
refusal_code TooManyPipes = 24
refusal_code TooManyFlows = 25

-- the reason for a refusal, if this is the record of a refused command
abbrev pub refusal_in : Option Record → Option Refusal
refusal_in (Some (CommandRefused moment command refusal)) = Some refusal
refusal_in _ = None

-- the outcome of a command that is not refused; the packet that it creates has this number
abbrev pub done_by : Command → ℕ → Taken
done_by (Inject send) number = Packet number
done_by _ number = Done

abbrev pub taken_by : Command → ℕ → Option Refusal → Taken
taken_by command number None = done_by command number
taken_by command number (Some refusal) = Refused (refusal_code refusal)

-- the packet that a command injects is marked; other commands mark nothing
abbrev pub MarkedBy : Command → ℕ → Marks → Marks → Type 0
MarkedBy (Inject send) number old new = MarksOne number old new
MarkedBy _ number old new = new ≡ old
