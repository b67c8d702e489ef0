-- NetSteps: single words of the definitions of dues, flow identifiers, delay lines and commands, each number worked out
-- by hand from the rule in its comment.
use Rattle.std.specs.Prelude.{◌≡◌, refl, ℕ, ◌-◌, ◌^◌, true, false, Some, None, List, [], ◌∷◌, ◌++◌, replicate, map}
use Rattle.emu_model.specs.declared.packets.Protocol.TheVariants.{Tcp, Udp}
use Rattle.emu_model.specs.declared.packets.Load.TheVariants.{Plain}
use Rattle.emu_model.specs.declared.packets.Packet.{Packet}
use Rattle.emu_model.specs.declared.pipes.Mask.{Mask}
use Rattle.emu_model.specs.declared.pipes.QueueLimit.TheVariants.{Slots}
use Rattle.emu_model.specs.declared.pipes.Discipline.TheVariants.{TailDrop}
use Rattle.emu_model.specs.declared.records.Record.TheVariants.{PacketArrived}
use Rattle.emu_model.specs.declared.sources.Class.TheVariants.{NextCommand, Exit, Finish, Expiry, Emission}
use Rattle.emu_model.specs.declared.sources.FlowSpec.{FlowSpec}
use Rattle.emu_model.specs.declared.sources.TrainSpec.{TrainSpec}
use Rattle.emu_model.specs.declared.sources.Timing.TheVariants.{Fixed}
use Rattle.emu_model.specs.declared.records.Refusal.TheVariants.{FlowThere, TooManyFlows}
use Rattle.emu_model.specs.FlowIds.{FlowId, protocol_number, flow_id, same_flow, same_mask, instance_of}
use Rattle.emu_model.specs.Delay.{Line, leave, enter, exit_after}
use Rattle.emu_model.specs.Reno.{initial_sender}
use Rattle.emu_model.specs.Dues.{due, is_before, train_dues}
use Rattle.emu_model.specs.Pipes.{PipeState, initial_instance, instance_for}
use Rattle.emu_model.specs.Net.{Net, TrainState, initial_net, arrivals}
use Rattle.emu_model.specs.Commands.{shown_words, source_refusal, start_flow, start_train}

-- at one moment commands come first, then exits, finishes, expiries and emissions, whatever their numbers are
classes_in_order :
    is_before (due NextCommand 9 5) (due Exit 1 5) ∷ is_before (due Exit 9 5) (due Finish 1 5)
    ∷ is_before (due Finish 9 5) (due Expiry 1 5) ∷ is_before (due Expiry 9 5) (due Emission 1 5) ∷ []
    ≡ replicate 4 true
classes_in_order = refl

not_the_other_way :
    is_before (due Exit 1 5) (due NextCommand 9 5) ∷ is_before (due Finish 1 5) (due Exit 9 5)
    ∷ is_before (due Expiry 1 5) (due Finish 9 5) ∷ is_before (due Emission 1 5) (due Expiry 9 5) ∷ []
    ≡ replicate 4 false
not_the_other_way = refl

-- in one class the lesser number comes first, and nothing comes before itself; an earlier moment decides
numbers_in_order :
    is_before (due Exit 1 5) (due Exit 2 5) ∷ is_before (due Exit 2 5) (due Exit 1 5)
    ∷ is_before (due Exit 1 5) (due Exit 1 5) ∷ is_before (due Emission 9 4) (due Exit 1 5)
    ∷ is_before (due Exit 1 5) (due Emission 9 4) ∷ []
    ≡ true ∷ false ∷ false ∷ true ∷ false ∷ []
numbers_in_order = refl

-- each field has its own mask: 17 and 0x0f is 1, 0x78, 0xde00, 4, 0x70
abbrev masks : Mask
masks = record { proto = 15; src = 255; dst = 65280; sport = 15; dport = 240 }

abbrev any_packet : Packet
any_packet = record {
  proto = Udp;
  src = 305419896;
  sport = 4660;
  dst = 2596069104;
  dport = 22136;
  size = 100;
  number = 0;
  load = Plain;
  place = record { number = 0; order = 0 };
}

masked : flow_id masks any_packet ≡ record { proto = 1; src = 120; dst = 56832; sport = 4; dport = 112 }
masked = refl

numbers_of_protocols : protocol_number Tcp ∷ protocol_number Udp ∷ [] ≡ 6 ∷ 17 ∷ []
numbers_of_protocols = refl

-- one field that differs is enough
abbrev zeros : FlowId
zeros = record { proto = 0; src = 0; dst = 0; sport = 0; dport = 0 }

abbrev others : List FlowId
others =
    record zeros { proto = 1 } ∷ record zeros { src = 1 } ∷ record zeros { dst = 1 }
    ∷ record zeros { sport = 1 } ∷ record zeros { dport = 1 } ∷ []

each_field_tells : map (same_flow zeros) (zeros ∷ others) ≡ true ∷ replicate 5 false
each_field_tells = refl

each_mask_tells :
    map (same_mask masks)
    (masks ∷ record masks { proto = 1 } ∷ record masks { src = 1 } ∷ record masks { dst = 1 }
    ∷ record masks { sport = 1 } ∷ record masks { dport = 1 } ∷ [])
    ≡ true ∷ replicate 5 false
each_mask_tells = refl

-- instances are numbered from 0 in the order of their first packets
known_instance : map (instance_of others) (others ++ zeros ∷ []) ≡ Some 0 ∷ Some 1 ∷ Some 2 ∷ Some 3 ∷ Some 4 ∷ Some 5 ∷ []
known_instance = refl

-- where a pipe has 256 instances of others, a packet has none, and a trace has no arrival of it
abbrev pipe_with : ℕ → FlowId → PipeState
pipe_with instances id = record {
  number = 4;
  config = record {
    bw = 0;
    delay = 0;
    queue = Slots 50;
    plr = 0;
    mask = masks;
    discipline = TailDrop;
  };
  instances = replicate instances (initial_instance id);
}

no_instance : instance_for any_packet (pipe_with 256 zeros) ≡ None
no_instance = refl

no_arrival : arrivals 9 any_packet (pipe_with 256 zeros) ≡ []
no_arrival = refl

arrival_at_the_first : arrivals 9 any_packet (pipe_with 256 (flow_id masks any_packet)) ≡ PacketArrived 9 0 4 0 ∷ []
arrival_at_the_first = refl

-- a delay line keeps the last exit when its first packet leaves
abbrev two_on_the_way : Line ℕ
two_on_the_way = record { in_flight = record { item = 7; exit = 5 } ∷ record { item = 8; exit = 9 } ∷ []; last = 9 }

one_leaves : leave two_on_the_way ≡ record { in_flight = record { item = 8; exit = 9 } ∷ []; last = 9 }
one_leaves = refl

-- a third that finishes at 6 with a delay of 1 leaves no earlier than the one before, at 9; with one of 4 at 10
third_enters : (enter 3 6 1 two_on_the_way).last ∷ (enter 3 6 4 two_on_the_way).last ∷ [] ≡ 9 ∷ 10 ∷ []
third_enters = refl

-- a delay of 0 is 1 ns
least_delay : exit_after 0 6 0 ∷ exit_after 0 6 1 ∷ exit_after 0 6 2 ∷ [] ≡ 7 ∷ 7 ∷ 8 ∷ []
least_delay = refl

-- a listing shows at most 2^64 - 1 loss words
most_words : shown_words (2 ^ 64) ∷ shown_words 5 ∷ [] ≡ (2 ^ 64 - 1) ∷ 5 ∷ []
most_words = refl

-- 256 flows and trains together
abbrev flow : FlowSpec
flow = record {
  src = 1;
  sport = 2;
  dst = 3;
  dport = 4;
  smss = 1000;
  segments = 20;
  ssthresh = 6000;
  rwnd = 65535;
  timing = Fixed 40000;
}

abbrev train : TrainSpec
train = record {
  packet = record { proto = Udp; src = 1; sport = 2; dst = 3; dport = 4; size = 40 };
  count = 3;
  gap = 10;
}

abbrev with_sources : ℕ → ℕ → Net
with_sources flows trains = record initial_net {
  flows = replicate flows (record {
    number = 1;
    flow = flow;
    sender = initial_sender flow;
    stopped = false;
    came = [];
  });
  trains = replicate trains (record { number = 2; train = train; start = 0; sent = 0 });
}

number_of_a_flow : source_refusal 1 (with_sources 1 1) ≡ Some FlowThere
number_of_a_flow = refl

number_of_a_train : source_refusal 2 (with_sources 1 1) ≡ Some FlowThere
number_of_a_train = refl

last_source : source_refusal 3 (with_sources 100 155) ≡ None
last_source = refl

no_more_sources : source_refusal 3 (with_sources 100 156) ≡ Some TooManyFlows
no_more_sources = refl

-- a flow and a train as they begin
begins : (start_flow 1 flow initial_net).flows ≡ (with_sources 1 0).flows
begins = refl

train_begins : (start_train 7 5 train initial_net).trains ≡ record { number = 5; train = train; start = 7; sent = 0 } ∷ []
train_begins = refl

-- its packets are due every 10 ns from its start on, three in all
abbrev sent : ℕ → TrainState
sent n = record { number = 5; train = train; start = 7; sent = n }

packets_are_due :
    map train_dues (sent 0 ∷ sent 2 ∷ sent 3 ∷ [])
    ≡ (due Emission 5 7 ∷ []) ∷ (due Emission 5 27 ∷ []) ∷ [] ∷ []
packets_are_due = refl
