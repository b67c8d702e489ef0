-- Lines of worked reports, computed by the definitions.
use Rattle.std.specs.Prelude.{◌≡◌, refl, [], ◌∷◌, None, Some, true, codes}
use Rattle.std.specs.Fmt.{digits}
use Rattle.emu_model.specs.declared.packets.Protocol.TheVariants.{Udp}
use Rattle.emu_model.specs.declared.packets.Load.TheVariants.{Plain, Seg, Ack}
use Rattle.emu_model.specs.declared.packets.Origin.TheVariants.{ByCommand}
use Rattle.emu_model.specs.declared.rules.Action.TheVariants.{SkipTo, Pipe}
use Rattle.emu_model.specs.declared.rules.ProtocolMatch.TheVariants.{AnyProtocol, OnlyUdp}
use Rattle.emu_model.specs.declared.pipes.QueueLimit.TheVariants.{Slots, KBytes}
use Rattle.emu_model.specs.declared.pipes.Discipline.TheVariants.{TailDrop, ControlledDelay}
use Rattle.emu_model.specs.declared.records.DropCause.TheVariants.{Full, NoPipe}
use Rattle.emu_model.specs.declared.records.Refusal.TheVariants.{NoSuchPipe}
use Rattle.emu_model.specs.declared.records.Record.TheVariants.{CommandDone, CommandRefused, PacketMade, PacketArrived, InstanceIdentified, PacketFinished, PacketDelivered, PacketPassed, PacketDropped, AckTaken, StepsSpent, RuleLine, PipeLine, InstanceLine}
use Rattle.report.specs.Words.{places}
use Rattle.report.specs.Lines.{line_of, report_of}

one_packet :
    report_of
    (codes "a")
    (CommandDone 0 0
    ∷ CommandDone 0 1
    ∷ CommandDone 0 2
    ∷ PacketFinished 8000000 0 1 0
    ∷ PacketDelivered 18000000 0 Plain
    ∷ CommandDone 20000000 3
    ∷ [])
    (record { made = 1; delivered = 1; held = 0; drops = 0 ∷ 0 ∷ 0 ∷ 0 ∷ 0 ∷ 0 ∷ 0 ∷ 0 ∷ [] })
    ≡ codes "experiment a\n0 ok 0\n0 ok 1\n0 ok 2\n8000000 finish 0 1.0\n18000000 deliver 0 plain\n20000000 ok 3\ncounters 1 1 0 0 0 0 0 0 0 0 0\n"
unfolding digits
one_packet = refl

-- the drops keep their order
order_of_counters :
    report_of
    []
    []
    (record { made = 1; delivered = 2; held = 3; drops = 4 ∷ 5 ∷ 6 ∷ 7 ∷ 8 ∷ 9 ∷ 10 ∷ 11 ∷ [] })
    ≡ codes "experiment \ncounters 1 2 3 4 5 6 7 8 9 10 11\n"
unfolding digits
order_of_counters = refl

dropped : line_of (PacketDropped 0 2 Plain Full) ≡ codes "0 drop 2 plain full\n"
unfolding digits
dropped = refl

acknowledged : line_of (AckTaken 42400000 1 10220 65535) ≡ codes "42400000 ack 1 10220 65535\n"
unfolding digits
acknowledged = refl

segment_delivered :
    line_of (PacketDelivered 32400000 6 (Seg 1 4380)) ≡ codes "32400000 deliver 6 data 1 4380\n"
unfolding digits
segment_delivered = refl

ack_dropped :
    line_of (PacketDropped 5 7 (Ack 1 5840) NoPipe) ≡ codes "5 drop 7 ack 1 5840 nopipe\n"
unfolding digits
ack_dropped = refl

passed : line_of (PacketPassed 15000000 0 2 0) ≡ codes "15000000 pass 0 2.0\n"
unfolding digits
passed = refl

-- from 10.0.0.1 to 10.0.0.2
made : line_of (PacketMade 5 0 (ByCommand 0) Udp 167772161 1000 167772162 2000 1000)
    ≡ codes "5 make 0 plain udp 10.0.0.1 1000 10.0.0.2 2000 1000\n"
unfolding digits
made = refl

arrived : line_of (PacketArrived 5 0 2 7) ≡ codes "5 arrive 0 2.7\n"
unfolding digits
arrived = refl

-- 10.0.0.1 alone, and UDP
identified : line_of (InstanceIdentified 5 2 7 17 167772161 0 0 0)
    ≡ codes "5 identify 2.7 11/0a000001/00000000/0000/0000\n"
unfolding digits places
identified = refl

refused : line_of (CommandRefused 9 3 NoSuchPipe) ≡ codes "9 refused 3 20\n"
unfolding digits
refused = refl

spent : line_of (StepsSpent 0) ≡ codes "0 spent\n"
unfolding digits
spent = refl

any_rule :
    line_of
    (RuleLine
    (record { number = 100; action = SkipTo 300; proto = AnyProtocol; src = record { address = 0; len = 0 }; sports = None; dst = record { address = 0; len = 0 }; dports = None })
    1
    1000)
    ≡ codes "rule 00100 1 1000 skipto 300 ip from any to any\n"
unfolding digits places
any_rule = refl

-- 10.0.0.1 alone with one port, and 10.1.0.0/16 with many
close_rule :
    line_of
    (RuleLine
    (record { number = 5; action = Pipe 1; proto = OnlyUdp; src = record { address = 167772161; len = 32 }; sports = Some (record { first = 53; last = 53 }); dst = record { address = 167837696; len = 16 }; dports = Some (record { first = 0; last = 65535 }) })
    0
    0)
    ≡ codes "rule 00005 0 0 pipe 1 udp from 10.0.0.1 53 to 10.1.0.0/16 0-65535\n"
unfolding digits places
close_rule = refl

plain_pipe :
    line_of
    (PipeLine
    1
    (record { bw = 1000000; delay = 0; queue = Slots 50; plr = 0; mask = record { proto = 0; src = 0; dst = 0; sport = 0; dport = 0 }; discipline = TailDrop }))
    ≡ codes "pipe 1 bw 1000000 delay 0 queue 50 plr 0 mask 00/00000000/00000000/0000/0000 droptail\n"
unfolding digits places
plain_pipe = refl

masked_pipe :
    line_of
    (PipeLine
    7
    (record { bw = 0; delay = 10; queue = KBytes 10; plr = 680000; mask = record { proto = 0xff; src = 0xffffff00; dst = 0x0a0b0c0d; sport = 0; dport = 0x89ef }; discipline = ControlledDelay 5000000 100000000 }))
    ≡ codes "pipe 7 bw 0 delay 10 queue 10KBytes plr 680000 mask ff/ffffff00/0a0b0c0d/0000/89ef codel target 5000000 interval 100000000\n"
unfolding digits places
masked_pipe = refl

instance_shown :
    line_of (InstanceLine 1 0 1 1000 true 0 3)
    ≡ codes "instance 1.0 waiting 1 bytes 1000 busy 1 flight 0 drawn 3\n"
unfolding digits
instance_shown = refl
