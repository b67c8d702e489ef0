-- Routes of packets that only one rule counts, and that this rule sends to an instance that exists.
use Rattle.std.specs.Prelude.{◌≡◌, ℕ, ◌-◌, nat_lt, if◌then◌else◌, Option, Some, List, slice_get}
use Rattle.emu_model.specs.declared.packets.Packet.{Packet}
use Rattle.emu_model.specs.declared.packets.Load.TheVariants.{Plain}
use Rattle.emu_model.specs.declared.rules.Verdict.TheVariants.{IntoPipe}
use Rattle.emu_model.specs.declared.sources.SendSpec.{SendSpec}
use Rattle.emu_model.specs.Net.{packet_of}
use Rattle.emu_model.specs.Rules.{Counted, verdict, the_rules}
use Rattle.emu_rules.specs.Walk.{CountsAlone}
use Rattle.pipe_core.specs.Keyed.{KeyedPipe}
use Rattle.pipe_table.specs.Places.{IsRouted}
use Rattle.sources.specs.declared.sources.SourcePlace.TheVariants.{Flow, Train}
use Rattle.sources.specs.Standing.{Heads, send_at, reply_at}
use Rattle.network.specs.declared.flow_cache.Route.{Route}
use Rattle.network.specs.declared.flow_cache.CacheEntry.{CacheEntry}

-- a packet with this header, and no load
abbrev pub plain : SendSpec → Packet
plain send = packet_of Plain send 0

-- the route of a packet whose search begins at place `start`
pub record IsRoute (start : ℕ) (packet : Packet) (w : Route) (cs : List Counted) (ps : List KeyedPipe) : Type 0 where
  pub alone : CountsAlone start packet (the_rules cs) w.rule
  pub verdict : verdict start packet cs ≡ IntoPipe w.number w.place
  pub routed : IsRouted w.number packet w.pipe w.instance ps

-- the header of the packets whose route a line has: first the flows' segments, then the trains' packets, then the flows'
-- acknowledgements, each by place
abbrev pub header_on : ℕ → Heads → Option SendSpec
header_on line h =
    if nat_lt line 256 then send_at (Flow line) h
    else if nat_lt line 512 then send_at (Train (line - 256)) h
    else reply_at (line - 512) h

-- each cached entry has the header of its line, and the route of the packets with it
pub record AreKnown (cs : List Counted) (ps : List KeyedPipe) (h : Heads) (lines : List (Option CacheEntry)) : Type 0 where
  pub header : (line : ℕ) (r : CacheEntry) → slice_get lines line ≡ Some (Some r) → header_on line h ≡ Some r.send
  pub each : (line : ℕ) (r : CacheEntry) → slice_get lines line ≡ Some (Some r) → IsRoute 0 (plain r.send) r.route cs ps
