-- OriginSteps: what created each packet of a run that is traced from its first event on, worked out by hand from the rules in
-- the comments.
use Rattle.std.specs.Prelude.{◌≡◌, refl, true, List, [], ◌∷◌}
use Rattle.emu_model.specs.declared.packets.Load.TheVariants.{Plain, Seg, Ack}
use Rattle.emu_model.specs.declared.packets.Origin.TheVariants.{ByCommand, ByTrain, BySender, ByReceiver}
use Rattle.emu_model.specs.declared.packets.Protocol.TheVariants.{Tcp, Udp}
use Rattle.emu_model.specs.declared.rules.Action.TheVariants.{Allow}
use Rattle.emu_model.specs.declared.rules.ProtocolMatch.TheVariants.{AnyProtocol}
use Rattle.emu_model.specs.declared.sources.Timing.TheVariants.{Fixed}
use Rattle.emu_model.specs.declared.commands.Spec.{Spec}
use Rattle.emu_model.specs.declared.commands.Timed.{Timed}
use Rattle.emu_model.specs.declared.commands.Command.TheVariants.{Add, Inject, Train, Flow, End}
use Rattle.emu_model.specs.declared.records.Record.{Record}
use Rattle.emu_model.specs.declared.records.Record.TheVariants.{CommandDone, PacketMade, PacketDelivered, AckTaken}
use Rattle.emu_model.specs.Alone.{alone, trace_of}
use Rattle.emu_laws.proofs.Makings.{at, counted, flow, packet, rule_for_all, train}

-- a traced experiment whose packets all go over the link of `allow`, which takes 1 ns
abbrev spec : Spec
spec = record { seed = 0; budget = record { packets = 10; steps = 100 }; traced = true }

-- command 1 sends a packet, command 2 starts train 3 with one, and command 3 flow 4 with one segment
abbrev commands : List Timed
commands =
    at 0 (Add (rule_for_all 100 Allow AnyProtocol)) ∷ at 0 (Inject (packet Udp 1 1000 2 2000 100))
    ∷ at 0 (Train 3 (train (packet Udp 3 3000 4 4000 200) 1 1))
    ∷ at 0 (Flow 4 (flow 5 5000 6 80 960 1 65535 65535 (Fixed 1000))) ∷ at 10 End ∷ []

-- at 0 the train comes first by its number; at 1 the three packets arrive, and the receiver acknowledges 960 bytes; at 2 the
-- sender takes it, and its window of four segments grows by one
abbrev records : List Record
records =
    CommandDone 0 0 ∷ CommandDone 0 1 ∷ PacketMade 0 0 (ByCommand 1) Udp 1 1000 2 2000 100 ∷ CommandDone 0 2
    ∷ CommandDone 0 3 ∷ PacketMade 0 1 (ByTrain 3) Udp 3 3000 4 4000 200
    ∷ PacketMade 0 2 (BySender 4 0) Tcp 5 5000 6 80 1000 ∷ PacketDelivered 1 0 Plain ∷ PacketDelivered 1 1 Plain
    ∷ PacketDelivered 1 2 (Seg 4 0) ∷ PacketMade 1 3 (ByReceiver 4 960) Tcp 6 80 5 5000 40
    ∷ PacketDelivered 2 3 (Ack 4 960) ∷ AckTaken 2 4 4800 65535 ∷ CommandDone 10 4 ∷ []

each_has_its_origin :
    trace_of (alone spec commands 11) ≡ record { records = records; counters = counted 4 4 0 0 0 0 0 0 0 0 0 }
each_has_its_origin = refl
