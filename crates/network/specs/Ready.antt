-- Conditions under which a call needs no allocation, if the shelf has room for a packet.
use Rattle.std.specs.Prelude.{◌≡◌, ◌≢◌, ℕ, ◌^◌, ◌-◌, ◌<◌, List, Option, Some, None, IsSome, slice_get}
use Rattle.emu_model.specs.declared.commands.Command.{Command}
use Rattle.emu_model.specs.declared.commands.Command.TheVariants.{Delete, Stop, OnePass, Trace, End}
use Rattle.emu_model.specs.declared.packets.Load.{Load}
use Rattle.emu_model.specs.declared.packets.Load.TheVariants.{Plain, Seg, Ack}
use Rattle.emu_model.specs.declared.packets.Packet.{Packet}
use Rattle.emu_model.specs.declared.rules.Verdict.{Verdict}
use Rattle.emu_model.specs.declared.rules.Verdict.TheVariants.{OverTheLink, Dropped, IntoPipe}
use Rattle.emu_model.specs.declared.sources.SendSpec.{SendSpec}
use Rattle.emu_model.specs.Commands.{refusal_of}
use Rattle.emu_model.specs.Rules.{Counted, verdict, start_behind, the_rules}
use Rattle.emu_rules.specs.declared.search.Match.{Match}
use Rattle.emu_rules.specs.Walk.{CountsAlone}
use Rattle.emu_model.specs.Net.{Net, packet_of}
use Rattle.pipe_table.specs.Table.{HasRoomIn}
use Rattle.sources.specs.Kept.{with_traffic, HasRoomFor}
use Rattle.sources.specs.Sends.{reply_send}
use Rattle.pipe_table.specs.Places.{HasRoomAtPlace}
use Rattle.network.specs.declared.flow_cache.Route.{Route}
use Rattle.network.specs.declared.flow_cache.Lookup.{Lookup}
use Rattle.network.specs.declared.flow_cache.Lookup.TheVariants.{Cached, Searched}
use Rattle.network.specs.Kept.{KeptNet}
use Rattle.network.specs.FlowCache.{IsRoute, plain}

-- a packet with this verdict can be sent on without an allocation
abbrev pub IsReady : Verdict → Packet → KeptNet → Type 0
IsReady OverTheLink packet n = 0 < n.direct.spare
IsReady Dropped packet n = Unit {0}
IsReady (IntoPipe k place) packet n = HasRoomIn k packet n.table.pipes

-- the classification of a packet whose search begins at place `start`
pub record IsMatch (start : ℕ) (packet : Packet) (f : Match) (cs : List Counted) : Type 0 where
  pub verdict : f.verdict ≡ verdict start packet cs
  pub rule : f.rule ≢ 2 ^ 64 - 1 → CountsAlone start packet (the_rules cs) f.rule

-- the place at which the search for a packet that left a pipe begins
abbrev pub start_after : Packet → KeptNet → ℕ
start_after packet n = start_behind packet.place n.book.rules

-- a packet whose search begins at place `start` can take its route without an allocation
pub record CanGo (start : ℕ) (packet : Packet) (w : Route) (n : KeptNet) : Type 0 where
  pub route : IsRoute start packet w n.book.rules n.table.pipes
  pub room : HasRoomAtPlace packet.size w.pipe w.instance n.table.pipes

-- a packet can be sent on without an allocation: by its route if that is known, otherwise by the verdict of a search
abbrev pub CanPass : ℕ → Packet → Option Route → KeptNet → Type 0
CanPass start packet (Some w) n = CanGo start packet w n
CanPass start packet None n = IsReady (verdict start packet n.book.rules) packet n

-- the route of packets with this header is cached on this line, and its instance has room for one
pub record HoldsWay (send : SendSpec) (line : ℕ) (n : KeptNet) : Type 0 where
  pub route : Route
  pub there : slice_get n.flow_cache line ≡ Some (Some (record { send = send; route = route }))
  pub room : HasRoomAtPlace send.size route.pipe route.instance n.table.pipes

-- a packet has the header whose route is cached on this line
pub record HasRoute (packet : Packet) (line : ℕ) (n : KeptNet) : Type 0 where
  pub load : Load
  pub send : SendSpec
  pub number : ℕ
  pub made : packet ≡ packet_of load send number
  pub holds : HoldsWay send line n

-- a packet with this header can be created, and pass the rules, without an allocation
abbrev pub CanMake : SendSpec → Lookup → KeptNet → Type 0
CanMake send (Cached line) n = HoldsWay send line n
CanMake send Searched n = IsReady (verdict 0 (plain send) n.book.rules) (plain send) n

-- a packet with this load can be delivered, and a segment acknowledged, without an allocation
abbrev pub CanDeliver : Load → Lookup → KeptNet → Type 0
CanDeliver Plain lookup n = Unit {0}
CanDeliver (Seg k first) lookup n = HasRoomFor k n.traffic
    × ((send : SendSpec) → ((m : Net) → reply_send k (with_traffic n.traffic m) ≡ Some send) →
    CanMake send lookup n)
CanDeliver (Ack k upto) lookup n = Unit {0}

-- a command that allocates only for its records: it is refused, or changes only what exists
abbrev pub TakesNoMemory : Command → Net → Type 0
TakesNoMemory (Delete k) n = Unit {0}
TakesNoMemory (Stop k) n = Unit {0}
TakesNoMemory (OnePass on) n = Unit {0}
TakesNoMemory (Trace on) n = Unit {0}
TakesNoMemory End n = Unit {0}
TakesNoMemory c n = IsSome (refusal_of c n)
