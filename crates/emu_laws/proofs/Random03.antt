-- Random03: the report of a scenario, computed by the definitions.
use Rattle.emu_laws.proofs.Words.{Ack, AckTaken, Adaptive, Add, AnyProtocol, CommandDone, CommandRefused, Config, ControlledDelay, Count, Delete, End, Flow, Inject, InstanceLine, KBytes, List, NoFlow, None, OnePass, OnlyTcp, PacketDelivered, PacketFinished, Pipe, PipeLine, PipeShow, Plain, Record, Seg, SkipTo, Slots, Stop, TailDrop, Tcp, Timed, Train, Udp, [], address_span, alone, block_word, column_round, control_step, diagonal_round, double_rounds, false, quarter_round, refl, trace_of, u32_at, ◌*◌, ◌++◌, ◌+◌, ◌∷◌, ◌≡◌}
use Rattle.emu_laws.proofs.Makings.{anywhere, at, counted, flow, masked, packet, pipe_with, ports, rule, rule_for_all, runs, spec, train, unmasked}

-- experiment z
abbrev exp_0-commands : List Timed
exp_0-commands =
    (at 0 (Config 256 (pipe_with 8000000 0 (Slots 12) 1000 (masked 255 4294967295 4294967295 65535 65535) (ControlledDelay 14113406000 753000))) ∷
    at 0 (Config 2 (pipe_with 59305 0 (Slots 6) 0 unmasked TailDrop)) ∷
    at 0 (Config 3 (pipe_with 1000000 29 (Slots 7) 0 (masked 0 0 3 65535 65535) TailDrop)) ∷
    at 0 (Add (rule 250 (SkipTo 400) AnyProtocol (address_span 167772161 32) None (address_span 167772161 32) (ports 1000 32768))) ∷
    at 0 (Add (rule_for_all 200 Count AnyProtocol)) ∷
    at 0 (Add (rule_for_all 65534 Count AnyProtocol)) ∷
    at 0 (Add (rule 300 (Pipe 2) OnlyTcp (address_span 167772161 32) None (address_span 167772162 32) None)) ∷
    at 0 (Add (rule 100 Count AnyProtocol (address_span 167772417 1) None anywhere None)) ∷
    at 0 (Add (rule_for_all 250 (Pipe 2) OnlyTcp)) ∷
    at 0 (Add (rule 400 (Pipe 256) AnyProtocol (address_span 167772161 32) (ports 53 443) (address_span 167772163 32) None)) ∷
    at 0 (Add (rule_for_all 100 (Pipe 256) AnyProtocol)) ∷
    at 0 (Flow 9 (flow 167772162 32768 167837698 3476 100 12 65535 65535 Adaptive)) ∷
    at 0 (Config 256 (pipe_with 8000000 10 (KBytes 6) 0 (masked 255 4294967295 4294967295 65535 65535) (ControlledDelay 5000000 1000000))) ∷
    at 0 (Train 5 (train (packet Udp 1093986565 65535 167772161 1000 40) 5 10000000)) ∷
    at 0 (Inject (packet Udp 0 1 167772417 443 500)) ∷ at 0 (Stop 3) ∷
    at 0 (Inject (packet Tcp 167772163 53 167772161 80 1500)) ∷
    at 250000000 (Inject (packet Udp 4294967295 443 167772162 2000 993)) ∷
    at 354173983 (Inject (packet Tcp 167772417 10725 167772163 2000 500)) ∷
    at 510000000 (OnePass false) ∷ at 542591702 (Delete 100) ∷ at 620000000 PipeShow ∷
    at 1000000000 End ∷ [])

abbrev exp_0-records : List Record
exp_0-records =
    runs 15 (λ i. CommandDone 0 i ∷ []) ++
    (CommandRefused 0 15 NoFlow ∷ CommandDone 0 16 ∷ PacketFinished 40000 2 256 2 ∷ []) ++
    runs 3 (λ i. PacketFinished (140000 + i * 140000) (3 + i) 256 3 ∷ []) ++
    (PacketFinished 500000 0 256 0 ∷ PacketFinished 560000 6 256 3 ∷
    PacketFinished 1500000 1 256 1 ∷ PacketDelivered 10040000 2 Plain ∷
    PacketFinished 10040000 7 256 2 ∷ []) ++
    runs 3 (λ i. PacketDelivered (10140000 + i * 140000) (3 + i) (Seg 9 (i * 100)) ∷
    PacketFinished (10180000 + i * 140000) (8 + i) 256 4 ∷ []) ++
    (PacketDelivered 10500000 0 Plain ∷ PacketDelivered 10560000 6 (Seg 9 300) ∷
    PacketFinished 10600000 11 256 4 ∷ PacketDelivered 11500000 1 Plain ∷
    PacketDelivered 20040000 7 Plain ∷ PacketFinished 20040000 12 256 2 ∷
    PacketDelivered 20180000 8 (Ack 9 100) ∷ AckTaken 20180000 9 500 65535 ∷ []) ++
    runs 3 (λ i. PacketDelivered (20320000 + i * 140000) (9 + i) (Ack 9 (200 + i * 100)) ∷
    AckTaken (20320000 + i * 140000) 9 (600 + i * 100) 65535 ∷
    PacketFinished (20320000 + i * 140000) (13 + i) 256 3 ∷ []) ++
    runs 5 (λ i. PacketFinished (20740000 + i * 140000) (16 + i) 256 3 ∷ []) ++
    (PacketDelivered 30040000 12 Plain ∷ PacketFinished 30040000 21 256 2 ∷ []) ++
    runs 8 (λ i. PacketDelivered (30320000 + i * 140000) (13 + i) (Seg 9 (400 + i * 100)) ∷
    PacketFinished (30360000 + i * 140000) (22 + i) 256 4 ∷ []) ++
    (PacketDelivered 40040000 21 Plain ∷ PacketFinished 40040000 30 256 2 ∷ []) ++
    runs 8 (λ i. PacketDelivered (40360000 + i * 140000) (22 + i) (Ack 9 (500 + i * 100)) ∷
    AckTaken (40360000 + i * 140000) 9 (900 + i * 100) 65535 ∷ []) ++
    (PacketDelivered 50040000 30 Plain ∷ CommandDone 250000000 17 ∷
    PacketFinished 250993000 31 256 5 ∷ PacketDelivered 260993000 31 Plain ∷
    CommandDone 354173983 18 ∷ PacketFinished 354673983 32 256 6 ∷
    PacketDelivered 364673983 32 Plain ∷ CommandDone 510000000 19 ∷ CommandDone 542591702 20 ∷
    CommandDone 620000000 21 ∷ PipeLine 2 (pipe_with 59305 0 (Slots 6) 0 unmasked TailDrop) ∷
    PipeLine 3 (pipe_with 1000000 29 (Slots 7) 0 (masked 0 0 3 65535 65535) TailDrop) ∷
    PipeLine 256 (pipe_with 8000000 10 (KBytes 6) 0 (masked 255 4294967295 4294967295 65535 65535) (ControlledDelay 5000000 1000000)) ∷
    InstanceLine 256 0 0 0 false 0 1 ∷ InstanceLine 256 1 0 0 false 0 1 ∷
    InstanceLine 256 2 0 0 false 0 5 ∷ InstanceLine 256 3 0 0 false 0 12 ∷
    InstanceLine 256 4 0 0 false 0 12 ∷ InstanceLine 256 5 0 0 false 0 1 ∷
    InstanceLine 256 6 0 0 false 0 1 ∷ CommandDone 1000000000 22 ∷ [])

exp_0 :
    trace_of (alone (spec 0 100 1000000) exp_0-commands 122)
    ≡ record { records = exp_0-records; counters = counted 33 33 0 0 0 0 0 0 0 0 0 }
unfolding control_step block_word double_rounds column_round diagonal_round quarter_round u32_at
exp_0 = refl
