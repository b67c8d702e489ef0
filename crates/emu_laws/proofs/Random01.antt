-- Random01: the report of a scenario, computed by the definitions.
use Rattle.emu_laws.proofs.Words.{Ack, AckTaken, Adaptive, Add, AnyProtocol, CommandDone, CommandRefused, Config, ControlledDelay, Delete, End, Fixed, Flow, FlowThere, Inject, InstanceLine, List, NoFlow, NoPipe, NoSuchPipe, None, OnlyUdp, PacketDelivered, PacketDropped, PacketFinished, Pipe, PipeDelete, PipeLine, PipeShow, Plain, Record, Seg, SkipTo, Slots, Stop, Tcp, Timed, Train, Udp, [], address_span, alone, block_word, column_round, control_step, diagonal_round, double_rounds, false, quarter_round, refl, trace_of, u32_at, ◌*◌, ◌++◌, ◌+◌, ◌∷◌, ◌≡◌}
use Rattle.emu_laws.proofs.Makings.{anywhere, at, counted, flow, packet, pipe_with, ports, rule, rule_for_all, runs, spec, train, unmasked}

-- experiment by_xz
abbrev exp_0-commands : List Timed
exp_0-commands =
    (at 0 (Config 3 (pipe_with 1000000 0 (Slots 10) 1 unmasked (ControlledDelay 7000 16000))) ∷
    at 0 (Add (rule 100 (Pipe 3) AnyProtocol anywhere None (address_span 167772161 32) (ports 443 65534))) ∷
    at 0 (Add (rule_for_all 50 (Pipe 3) AnyProtocol)) ∷
    at 0 (Add (rule_for_all 400 (Pipe 3) AnyProtocol)) ∷
    at 0 (Inject (packet Udp 167837698 2000 167772161 53 1000)) ∷
    at 0 (Inject (packet Udp 167772161 1000 167837698 65535 100)) ∷ at 0 (PipeDelete 99) ∷
    at 0 (Inject (packet Tcp 167772161 2000 167837698 1000 1500)) ∷
    at 0 (Flow 3 (flow 167772163 2000 167772163 0 1460 5 65535 65535 (Fixed 500))) ∷
    at 0 (Flow 11 (flow 3232237321 443 167772163 58925 1000 2 1000 65535 Adaptive)) ∷
    at 0 (Config 3 (pipe_with 0 2 (Slots 11) 0 unmasked (ControlledDelay 5000000 100000000))) ∷
    at 4000000 (Inject (packet Udp 167772163 32768 167772162 1001 647)) ∷
    at 7000000 (Inject (packet Udp 167772162 1 167772163 1 1000)) ∷
    at 8546058 (Inject (packet Tcp 4294967295 53 167772161 65534 1000)) ∷
    at 11371887 (Add (rule_for_all 250 (SkipTo 251) AnyProtocol)) ∷
    at 32230231 (Add (rule_for_all 300 (Pipe 3) OnlyUdp)) ∷
    at 36076256 (Train 8 (train (packet Tcp 167837698 0 167772417 0 1000) 6 159)) ∷
    at 39833383 (Train 8 (train (packet Udp 167772417 1 167772417 2000 1500) 3 0)) ∷
    at 40000000 (Train 9 (train (packet Udp 167772161 65535 167772161 443 1000) 2 0)) ∷
    at 55000000 (Delete 300) ∷
    at 64730268 (Inject (packet Tcp 167772163 35988 167772162 65535 1000)) ∷
    at 65544042 (Train 10 (train (packet Udp 167772163 80 167772161 443 40) 5 105935)) ∷
    at 68000000 PipeShow ∷ at 71000000 (Inject (packet Udp 167772161 65534 167772161 1 100)) ∷
    at 75000000 (PipeDelete 3) ∷ at 78428960 (Stop 10) ∷
    at 88000000 (Inject (packet Tcp 167772163 80 167772161 2000 1000)) ∷
    at 92000000 (Inject (packet Udp 167772161 1001 167772162 1000 1000)) ∷ at 100000000 End ∷ [])

abbrev exp_0-records : List Record
exp_0-records =
    runs 6 (λ i. CommandDone 0 i ∷ []) ++
    (CommandRefused 0 6 NoSuchPipe ∷ []) ++
    runs 4 (λ i. CommandDone 0 (7 + i) ∷ []) ++
    (CommandDone 4000000 11 ∷ CommandDone 7000000 12 ∷ []) ++
    runs 10 (λ i. PacketFinished 8000000 i 3 0 ∷ []) ++
    (CommandDone 8546058 13 ∷ PacketFinished 8546058 10 3 0 ∷ []) ++
    runs 3 (λ i. PacketDelivered 10000000 i Plain ∷ []) ++
    runs 3 (λ i. PacketDelivered 10000000 (3 + i) (Seg 3 (i * 1460)) ∷ []) ++
    (PacketDelivered 10000000 6 (Seg 11 0) ∷ PacketDelivered 10000000 7 (Seg 11 1000) ∷
    PacketDelivered 10000000 8 Plain ∷ PacketDelivered 10000000 9 Plain ∷ []) ++
    runs 5 (λ i. PacketFinished 10000000 (11 + i) 3 0 ∷ []) ++
    (PacketDelivered 10546058 10 Plain ∷ CommandDone 11371887 14 ∷ []) ++
    runs 3 (λ i. PacketDelivered 12000000 (11 + i) (Ack 3 (1460 + i * 1460)) ∷
    AckTaken 12000000 3 (5840 + i * 1460) 65535 ∷ []) ++
    (PacketDelivered 12000000 14 (Ack 11 1000) ∷ AckTaken 12000000 11 4250 1000 ∷
    PacketDelivered 12000000 15 (Ack 11 2000) ∷ AckTaken 12000000 11 4485 1000 ∷
    PacketFinished 12000000 16 3 0 ∷ PacketFinished 12000000 17 3 0 ∷
    PacketDelivered 14000000 16 (Seg 3 4380) ∷ PacketDelivered 14000000 17 (Seg 3 5840) ∷
    PacketFinished 14000000 18 3 0 ∷ PacketFinished 14000000 19 3 0 ∷
    PacketDelivered 16000000 18 (Ack 3 5840) ∷ AckTaken 16000000 3 10220 65535 ∷
    PacketDelivered 16000000 19 (Ack 3 7300) ∷ AckTaken 16000000 3 11680 65535 ∷
    CommandDone 32230231 15 ∷ CommandDone 36076256 16 ∷ []) ++
    runs 6 (λ i. PacketFinished (36076256 + i * 159) (20 + i) 3 0 ∷ []) ++
    runs 6 (λ i. PacketDelivered (38076256 + i * 159) (20 + i) Plain ∷ []) ++
    (CommandRefused 39833383 17 FlowThere ∷ CommandDone 40000000 18 ∷
    PacketFinished 40000000 26 3 0 ∷ PacketFinished 40000000 27 3 0 ∷
    PacketDelivered 42000000 26 Plain ∷ PacketDelivered 42000000 27 Plain ∷
    CommandDone 55000000 19 ∷ CommandDone 64730268 20 ∷ PacketFinished 64730268 28 3 0 ∷
    CommandDone 65544042 21 ∷ []) ++
    runs 5 (λ i. PacketFinished (65544042 + i * 105935) (29 + i) 3 0 ∷ []) ++
    (PacketDelivered 66730268 28 Plain ∷ []) ++
    runs 5 (λ i. PacketDelivered (67544042 + i * 105935) (29 + i) Plain ∷ []) ++
    (CommandDone 68000000 22 ∷
    PipeLine 3 (pipe_with 0 2 (Slots 11) 0 unmasked (ControlledDelay 5000000 100000000)) ∷
    InstanceLine 3 0 0 0 false 0 34 ∷ CommandDone 71000000 23 ∷ PacketFinished 71000000 34 3 0 ∷
    PacketDelivered 73000000 34 Plain ∷ CommandDone 75000000 24 ∷
    CommandRefused 78428960 25 NoFlow ∷ CommandDone 88000000 26 ∷
    PacketDropped 88000000 35 Plain NoPipe ∷ CommandDone 92000000 27 ∷
    PacketDropped 92000000 36 Plain NoPipe ∷ CommandDone 100000000 28 ∷ [])

exp_0 :
    trace_of (alone (spec 18446744073709551615 65535 1000000) exp_0-commands 136)
    ≡ record { records = exp_0-records; counters = counted 37 35 0 0 2 0 0 0 0 0 0 }
unfolding control_step block_word double_rounds column_round diagonal_round quarter_round u32_at
exp_0 = refl
