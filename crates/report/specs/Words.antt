-- The parts of a report's lines, as bytes (our choice; rules and pipes in the words of ipfw(8)).
use Rattle.std.specs.Prelude.{ℕ, ◌+◌, ◌/◌, ◌%◌, ◌^◌, ◌==◌, zero, suc, List, [], ◌∷◌, ◌++◌, Option, None, Some, if◌then◌else◌, codes, decimal, slice_index}
use Rattle.std.specs.List.{join_with_byte}
use Rattle.emu_model.specs.Spans.{AddressSpan, PortSpan}
use Rattle.emu_model.specs.declared.packets.Protocol.{Protocol}
use Rattle.emu_model.specs.declared.packets.Protocol.TheVariants.{Tcp, Udp}
use Rattle.emu_model.specs.declared.packets.Load.{Load}
use Rattle.emu_model.specs.declared.packets.Load.TheVariants.{Plain, Seg, Ack}
use Rattle.emu_model.specs.declared.rules.Action.{Action}
use Rattle.emu_model.specs.declared.rules.Action.TheVariants.{Allow, Deny, Count, SkipTo, Pipe}
use Rattle.emu_model.specs.declared.rules.ProtocolMatch.{ProtocolMatch}
use Rattle.emu_model.specs.declared.rules.ProtocolMatch.TheVariants.{AnyProtocol, OnlyTcp, OnlyUdp}
use Rattle.emu_model.specs.declared.pipes.QueueLimit.{QueueLimit}
use Rattle.emu_model.specs.declared.pipes.QueueLimit.TheVariants.{Slots, KBytes}
use Rattle.emu_model.specs.declared.pipes.Discipline.{Discipline}
use Rattle.emu_model.specs.declared.pipes.Discipline.TheVariants.{TailDrop, ControlledDelay}
use Rattle.emu_model.specs.declared.pipes.Mask.{Mask}
use Rattle.emu_model.specs.declared.records.DropCause.{DropCause}
use Rattle.emu_model.specs.declared.records.DropCause.TheVariants.{Denied, NoPipe, NoInstance, Lost, Full, Codel, Deleted, Budget}
use Rattle.emu_model.specs.declared.records.Refusal.{Refusal}
use Rattle.emu_model.specs.declared.records.Refusal.TheVariants.{BadNumber, BadSkip, RulesFull, NoRule, NoSuchPipe, MaskFixed, FlowThere, NoFlow, TooManyPipes, TooManyFlows}

-- the `count` lowest digits of a number in a base of at most 16, with leading zeros
unfoldable pub places : ℕ → ℕ → ℕ → List ℕ
places base zero n = []
places base (suc count) n =
    places base count (n / base) ++ slice_index (codes "0123456789abcdef") (n % base) ∷ []

-- the two digits of a number below 100, with a leading zero
abbrev pub pair_of : ℕ → List ℕ
pair_of n = (48 + n / 10) ∷ (48 + n % 10) ∷ []

-- the eight digits of a number below 100000000, with leading zeros
abbrev pub eight_of : ℕ → List ℕ
eight_of n =
    (pair_of (n / 10000 / 100) ++ pair_of (n / 10000 % 100))
    ++ (pair_of (n % 10000 / 100) ++ pair_of (n % 10000 % 100))

-- the name of an instance: its pipe's number, a dot, and its own number
abbrev pub instance_name : ℕ → ℕ → List ℕ
instance_name pipe instance = decimal pipe ++ codes "." ++ decimal instance

abbrev pub load_of : Load → List ℕ
load_of Plain = codes "plain"
load_of (Seg flow first) = codes "data " ++ decimal flow ++ codes " " ++ decimal first
load_of (Ack flow upto) = codes "ack " ++ decimal flow ++ codes " " ++ decimal upto

abbrev pub cause_of : DropCause → List ℕ
cause_of Denied = codes "denied"
cause_of NoPipe = codes "nopipe"
cause_of NoInstance = codes "noinstance"
cause_of Lost = codes "lost"
cause_of Full = codes "full"
cause_of Codel = codes "codel"
cause_of Deleted = codes "deleted"
cause_of Budget = codes "budget"

abbrev pub code_of : Refusal → ℕ
code_of BadNumber = 10
code_of BadSkip = 11
code_of RulesFull = 12
code_of NoRule = 13
code_of NoSuchPipe = 20
code_of MaskFixed = 21
code_of FlowThere = 22
code_of NoFlow = 23
code_of TooManyPipes = 24
code_of TooManyFlows = 25

abbrev pub action_of : Action → List ℕ
action_of Allow = codes "allow"
action_of Deny = codes "deny"
action_of Count = codes "count"
action_of (SkipTo number) = codes "skipto " ++ decimal number
action_of (Pipe pipe) = codes "pipe " ++ decimal pipe

abbrev pub protocol_of : ProtocolMatch → List ℕ
protocol_of AnyProtocol = codes "ip"
protocol_of OnlyTcp = codes "tcp"
protocol_of OnlyUdp = codes "udp"

-- the protocol of a packet
abbrev pub transport_of : Protocol → List ℕ
transport_of Tcp = codes "tcp"
transport_of Udp = codes "udp"

-- the four bytes of an address, separated by dots
abbrev pub dotted : ℕ → List ℕ
dotted address =
    join_with_byte
    46
    (decimal (address / 2 ^ 24)
    ∷ decimal (address / 2 ^ 16 % 256)
    ∷ decimal (address / 2 ^ 8 % 256)
    ∷ decimal (address % 256)
    ∷ [])

abbrev pub address_and_port : ℕ → ℕ → List ℕ
address_and_port address port = dotted address ++ codes " " ++ decimal port

-- the fields of a packet's header: protocol, source, destination and size
abbrev pub header_of : Protocol → ℕ → ℕ → ℕ → ℕ → ℕ → List ℕ
header_of proto src sport dst dport size =
    transport_of proto ++ codes " " ++ address_and_port src sport ++ codes " " ++ address_and_port dst dport
    ++ codes " " ++ decimal size

-- `any`, one address, or an address with a prefix length
abbrev pub prefix_of : AddressSpan → List ℕ
prefix_of span =
    if span.len == 0 then codes "any" else
    (if span.len == 32 then dotted span.address else dotted span.address ++ codes "/" ++ decimal span.len)

-- one port, or the first and the last port of a range
abbrev pub ports_of : PortSpan → List ℕ
ports_of span =
    if span.first == span.last then decimal span.first else
    decimal span.first ++ codes "-" ++ decimal span.last

-- the source or destination of a rule: its addresses, and its ports if the rule has any
abbrev pub end_of : AddressSpan → Option PortSpan → List ℕ
end_of span None = prefix_of span
end_of span (Some ports) = prefix_of span ++ codes " " ++ ports_of ports

-- the limit of a queue: a number of slots or of KBytes
abbrev pub queue_of : QueueLimit → List ℕ
queue_of (Slots limit) = decimal limit
queue_of (KBytes limit) = decimal limit ++ codes "KBytes"

-- a mask: its protocol, addresses and ports in hexadecimal
abbrev pub mask_of : Mask → List ℕ
mask_of mask =
    join_with_byte
    47
    (places 16 2 mask.proto
    ∷ places 16 8 mask.src
    ∷ places 16 8 mask.dst
    ∷ places 16 4 mask.sport
    ∷ places 16 4 mask.dport
    ∷ [])

-- a discipline; CoDel with its times in ns
abbrev pub discipline_of : Discipline → List ℕ
discipline_of TailDrop = codes "droptail"
discipline_of (ControlledDelay target interval) =
    codes "codel target " ++ decimal target ++ codes " interval " ++ decimal interval
