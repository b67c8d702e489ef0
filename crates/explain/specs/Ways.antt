-- The ways of packets, and what rules say of them.
use Rattle.std.specs.Prelude.{Bool, true, false}
use Rattle.emu_model.specs.declared.packets.Protocol.TheVariants.{Tcp}
use Rattle.emu_model.specs.declared.packets.Load.TheVariants.{Plain}
use Rattle.emu_model.specs.declared.packets.Packet.{Packet}
use Rattle.emu_model.specs.declared.sources.SendSpec.{SendSpec}
use Rattle.emu_model.specs.declared.sources.FlowSpec.{FlowSpec}
use Rattle.emu_model.specs.declared.rules.Verdict.{Verdict}
use Rattle.emu_model.specs.declared.rules.Verdict.TheVariants.{OverTheLink, Dropped, IntoPipe}
use Rattle.emu_model.specs.Rules.{RuleBook, verdict}
use Rattle.explain.specs.declared.ends.Ends.{Ends}

-- of what a train or a single command sends
abbrev pub sent_ends : SendSpec → Ends
sent_ends s = record { proto = s.proto; src = s.src; sport = s.sport; dst = s.dst; dport = s.dport }

-- of a flow's segments
abbrev pub segment_ends : FlowSpec → Ends
segment_ends f = record { proto = Tcp; src = f.src; sport = f.sport; dst = f.dst; dport = f.dport }

-- the other direction
abbrev pub turned : Ends → Ends
turned e = record { proto = e.proto; src = e.dst; sport = e.dport; dst = e.src; dport = e.sport }

-- a packet of these ends; rules look at nothing else of it
abbrev pub packet_of : Ends → Packet
packet_of e = record {
  proto = e.proto;
  src = e.src;
  sport = e.sport;
  dst = e.dst;
  dport = e.dport;
  size = 40;
  number = 0;
  load = Plain;
  place = record { number = 0; order = 0 };
}

abbrev pub is_deny : Verdict → Bool
is_deny Dropped = true
is_deny OverTheLink = false
is_deny (IntoPipe n place) = false

-- a packet of these ends is dropped by the rules
abbrev pub is_denied : RuleBook → Ends → Bool
is_denied b e = is_deny (verdict 0 (packet_of e) b.rules)
