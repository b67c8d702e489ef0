-- Examples that meet the bounds of laws, so that no smaller bound holds, and a search that takes every kind of step. The runs
-- and numbers are worked out by hand.
use Rattle.std.specs.Prelude.{◌≡◌, ℕ, ◌+◌, ◌-◌, ◌*◌, ◌^◌, true, None, List, [], ◌∷◌, length, map, false}
use Rattle.std.specs.List.{AllByRecursion}
use Rattle.emu_model.specs.declared.packets.Protocol.TheVariants.{Udp}
use Rattle.emu_model.specs.declared.packets.Load.TheVariants.{Plain}
use Rattle.emu_model.specs.declared.packets.Packet.{Packet}
use Rattle.emu_model.specs.declared.pipes.QueueLimit.TheVariants.{Slots}
use Rattle.emu_model.specs.declared.pipes.Discipline.TheVariants.{TailDrop}
use Rattle.emu_model.specs.declared.rules.Action.{Action}
use Rattle.emu_model.specs.declared.rules.Action.TheVariants.{Allow, Deny, Count, SkipTo, Pipe}
use Rattle.emu_model.specs.declared.rules.ProtocolMatch.{ProtocolMatch}
use Rattle.emu_model.specs.declared.rules.ProtocolMatch.TheVariants.{AnyProtocol, OnlyTcp}
use Rattle.emu_model.specs.declared.rules.Rule.{Rule}
use Rattle.emu_model.specs.declared.records.Record.TheVariants.{CommandDone, PacketFinished, PacketDelivered}
use Rattle.emu_model.specs.declared.sources.Timing.TheVariants.{Fixed}
use Rattle.emu_model.specs.declared.commands.Spec.{Spec}
use Rattle.emu_model.specs.declared.commands.Command.{Command}
use Rattle.emu_model.specs.declared.commands.Command.TheVariants.{Add, Config, Inject, Flow, Trace, End}
use Rattle.emu_model.specs.declared.commands.Timed.{Timed}
use Rattle.emu_model.specs.Rate.{finishes}
use Rattle.emu_model.specs.Reno.{flight_size}
use Rattle.emu_model.specs.Rules.{Counted, new_rule, default_rule}
use Rattle.emu_model.specs.DropTail.{Queued}
use Rattle.emu_model.specs.Codel.{Times, codel_dequeue}
use Rattle.emu_model.specs.Net.{FlowState, held}
use Rattle.emu_model.specs.Step.{step}
use Rattle.emu_model.specs.Alone.{alone}
use Rattle.emu_laws.specs.CodelCauses.{least_sojourn, most_left, least_time, control_after}
use Rattle.emu_laws.specs.DeliveryDelay.{least_delay}
use Rattle.emu_laws.specs.NumberBounds.{most_made}
use Rattle.emu_laws.specs.PipeRate.{bytes_between, most_bits}
use Rattle.emu_laws.specs.SearchEnds.{EndsAt}
use Rattle.emu_laws.specs.SenderWindow.{most_flight, window_end, IsTooSmall}
use Rattle.emu_laws.specs.WaitBound.{latest_finish}
use Rattle.emu_laws.specs.WorkBound.{most_held, told, most_told}

abbrev at : ℕ → Command → Timed
at moment command = record { moment = moment; command = command }

abbrev rule : ℕ → Action → ProtocolMatch → Rule
rule number action proto = record {
  number = number;
  action = action;
  proto = proto;
  src = record { address = 0; len = 0 };
  sports = None;
  dst = record { address = 0; len = 0 };
  dports = None;
}

abbrev allow_all : Command
allow_all = Add (rule 100 Allow AnyProtocol)

abbrev one_packet : Command
one_packet = Inject (record { proto = Udp; src = 1; sport = 1; dst = 2; dport = 2; size = 100 })

-- three packets at one time, where two may be held
abbrev three_packets : List Timed
three_packets =
    at 0 allow_all ∷ at 0 one_packet ∷ at 0 one_packet ∷ at 0 one_packet ∷ at 9 End ∷ []

-- a flow of four segments of 1000 bytes, whose receiver has a window of this many bytes
abbrev four_of : ℕ → Command
four_of window =
    Flow 1 (record {
      src = 1;
      sport = 1;
      dst = 2;
      dport = 2;
      smss = 1000;
      segments = 4;
      ssthresh = 65535;
      rwnd = window;
      timing = Fixed 1000;
    })

abbrev four_segments : List Timed
four_segments =
    at 0 allow_all
    ∷ at 0 (four_of 2000)
    ∷ at 9 End
    ∷ []

abbrev one_millisecond : Command
one_millisecond =
    Config 1 (record {
      bw = 0;
      delay = 1;
      queue = Slots 1;
      plr = 0;
      mask = record { proto = 0; src = 0; dst = 0; sport = 0; dport = 0 };
      discipline = TailDrop;
    })

abbrev delayed_packet : List Timed
delayed_packet =
    at 0 (Add (rule 100 (Pipe 1) AnyProtocol))
    ∷ at 0 one_millisecond
    ∷ at 0 one_packet
    ∷ at 9000000 End
    ∷ []

-- a packet that enters a new instance and causes each kind of trace record; then the steps are spent
abbrev traced_packet : List Timed
traced_packet =
    at 0 (Add (rule 100 (Pipe 1) AnyProtocol))
    ∷ at 0 one_millisecond
    ∷ at 0 (Trace true)
    ∷ at 0 one_packet
    ∷ at 9 End
    ∷ []

abbrev pub allowing : Counted
allowing = new_rule 4 (rule 500 Allow AnyProtocol)

-- the first rule counts, the second jumps over the third, and the fourth doesn't match UDP
abbrev five_rules : List Counted
five_rules =
    new_rule 0 (rule 100 Count AnyProtocol)
    ∷ new_rule 1 (rule 200 (SkipTo 400) AnyProtocol)
    ∷ new_rule 2 (rule 300 Deny AnyProtocol)
    ∷ new_rule 3 (rule 400 Deny OnlyTcp)
    ∷ allowing
    ∷ default_rule
    ∷ []

abbrev udp_packet : Packet
udp_packet = record {
  proto = Udp;
  src = 1;
  sport = 1;
  dst = 2;
  dport = 2;
  size = 100;
  number = 0;
  load = Plain;
  place = record { number = 0; order = 0 };
}

abbrev spec : Spec
spec = record { seed = 0; budget = record { packets = 2; steps = 100 }; traced = false }

abbrev four_steps : Spec
four_steps = record { seed = 0; budget = record { packets = 2; steps = 4 }; traced = false }

abbrev times : Times
times = record { target = 5; interval = 100 }

-- two packets that arrived at this time; after the first wait the fewest bytes with which it may be dropped
abbrev two_came : ℕ → List (Queued Packet)
two_came moment =
    record { item = udp_packet; size = 1000; stamp = moment }
    ∷ record { item = udp_packet; size = most_left + 1; stamp = moment }
    ∷ []

abbrev flows : ℕ → List FlowState
flows n = (alone spec four_segments n).net.flows

-- Four steps (the rule and three packets): two packets are held, and the budget drops the third. In the traced run, the fourth step creates a
-- packet, identifies its instance, where the packet arrives and is held, completes the command and spends the steps: six more records and held
-- packets. Four steps (the rule, the flow and two emissions): two segments are sent, all that the window allows, and the second ends where the
-- window does. At 7 bit/s packets of 6 and 1 bytes finish from 48 * 10^9 / 7 ns, rounded up, to 56 * 10^9 / 7 ns: 10^-9 bit more would reach the
-- bound of the rate. If a packet of 1000 bytes has just begun service at 1 Mbit/s, the next of 1000 bytes finishes 16 ms later. A packet that
-- finishes at 0 is delivered after the pipe's delay of 1 ms. With a target of 5 and an interval of 100, CoDel passes on at 5 a packet that
-- arrived at 0, and drops at 105 one that arrived at 100. A window of 999 bytes is too small for a segment of 1000.
pub record BoundsAreMet : Type 0 where
  pub held_is_budget : held (alone spec three_packets 4).net ≡ most_held spec
  pub step_tells_most :
      let s = alone four_steps traced_packet 3 in
      told (step s).net.records + held (step s).net ≡ told s.net.records + held s.net + most_told
  pub step_makes_most :
      let s = alone four_steps traced_packet 3 in
      (step s).net.made ≡ s.net.made + most_made
  pub flight_is_window : map (λ f. flight_size f.sender) (flows 4) ≡ map most_flight (flows 4)
  pub window_is_filled : map (λ f. f.sender.snd_nxt + f.flow.smss) (flows 3) ≡ map window_end (flows 3)
  pub rate_is_full :
      8 * 10 ^ 9 * bytes_between 6857142858 8000000000 (finishes 7 0 0 (6 ∷ 1 ∷ [])) (6 ∷ 1 ∷ []) + 1
      ≡ most_bits 7 6857142858 8000000000 6
  pub wait_is_longest : finishes 1000000 0 1000 (1000 ∷ []) ≡ latest_finish 1000000 0 1000 1000 ∷ []
  pub delay_is_least :
      (alone spec delayed_packet 5).net.records
      ≡ CommandDone 0 0 ∷ CommandDone 0 1 ∷ CommandDone 0 2 ∷ PacketFinished 0 0 1 0
      ∷ PacketDelivered (least_delay 1) 0 Plain ∷ []
  pub drop_is_soonest :
      let now = 5 + least_time times in
      let before = control_after times (record { moment = 5; waiting = two_came 0 } ∷ []) in
      length (codel_dequeue times now before (two_came (now - least_sojourn times))).dropped ≡ 1
  pub window_is_too_small : AllByRecursion IsTooSmall (alone spec (at 0 (four_of 999) ∷ at 9 End ∷ []) 1).net.flows

-- a search that counts, jumps, passes a rule that doesn't match, and ends at the rule that allows
abbrev pub SearchGoesAllWays : Type 0
SearchGoesAllWays = EndsAt udp_packet five_rules 0 allowing
