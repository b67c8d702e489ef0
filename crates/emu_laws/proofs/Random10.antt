-- Random10: the report of a scenario, computed by the definitions.
use Rattle.emu_laws.proofs.Words.{Ack, AckTaken, Add, CommandDone, Config, ControlledDelay, Delete, Denied, End, Fixed, Flow, Inject, List, None, OnlyTcp, PacketDelivered, PacketDropped, PacketFinished, Pipe, PipeLine, PipeShow, Plain, Record, Seg, Slots, StepsSpent, TailDrop, Tcp, Timed, Udp, [], address_span, alone, block_word, column_round, control_step, diagonal_round, double_rounds, quarter_round, refl, trace_of, u32_at, ◌*◌, ◌++◌, ◌+◌, ◌∷◌, ◌≡◌}
use Rattle.emu_laws.proofs.Makings.{anywhere, at, counted, flow, packet, pipe_with, rule, runs, spec, unmasked}

-- experiment p
abbrev exp_0-commands : List Timed
exp_0-commands =
    (at 0 (Inject (packet Udp 717163218 53 167772161 2000 88)) ∷
    at 1 (Config 1 (pipe_with 0 2 (Slots 10) 0 unmasked (ControlledDelay 1000000 180000))) ∷
    at 1 (Inject (packet Tcp 167772163 0 167772163 0 1000)) ∷
    at 1 (Inject (packet Udp 167772417 0 167772162 45799 1000)) ∷
    at 1 (Inject (packet Udp 3673144070 0 167772161 1 100)) ∷
    at 1 (Config 1 (pipe_with 0 2 (Slots 10) 0 unmasked (ControlledDelay 1000000 180000))) ∷
    at 1 PipeShow ∷
    at 1 (Config 1 (pipe_with 0 2 (Slots 10) 0 unmasked (ControlledDelay 1000000 180000))) ∷
    at 1 End ∷ [])

abbrev exp_0-records : List Record
exp_0-records =
    (CommandDone 0 0 ∷ PacketDropped 0 0 Plain Denied ∷ CommandDone 1 1 ∷ []) ++
    runs 3 (λ i. CommandDone 1 (2 + i) ∷ PacketDropped 1 (1 + i) Plain Denied ∷ []) ++
    (CommandDone 1 5 ∷ CommandDone 1 6 ∷
    PipeLine 1 (pipe_with 0 2 (Slots 10) 0 unmasked (ControlledDelay 1000000 180000)) ∷
    CommandDone 1 7 ∷ CommandDone 1 8 ∷ [])

exp_0 :
    trace_of (alone (spec 18446744073709551615 1000 1000000) exp_0-commands 13)
    ≡ record { records = exp_0-records; counters = counted 4 0 0 4 0 0 0 0 0 0 0 }
unfolding control_step
exp_0 = refl

-- experiment z
abbrev exp_1-commands : List Timed
exp_1-commands =
    (at 0 (Config 1 (pipe_with 8000000 10 (Slots 50) 0 unmasked TailDrop)) ∷
    at 0 (Config 2 (pipe_with 0 50 (Slots 50) 0 unmasked TailDrop)) ∷
    at 0 (Config 3 (pipe_with 0 21 (Slots 50) 0 unmasked TailDrop)) ∷
    at 0 (Add (rule 100 (Pipe 1) OnlyTcp (address_span 167772161 32) None (address_span 167772162 32) None)) ∷
    at 0 (Add (rule 200 (Pipe 2) OnlyTcp (address_span 167772162 32) None (address_span 167772161 32) None)) ∷
    at 0 (Flow 1 (flow 167772161 1000 167772162 80 960 27 65535 65535 (Fixed 1000))) ∷
    at 61000000 (Add (rule 60 (Pipe 3) OnlyTcp (address_span 167772161 32) None anywhere None)) ∷
    at 61500000 (Delete 60) ∷
    at 73163681 (Config 2 (pipe_with 0 10 (Slots 50) 0 unmasked TailDrop)) ∷
    at 226000000 (Config 1 (pipe_with 8000000 0 (Slots 50) 1000000 unmasked TailDrop)) ∷
    at 10000000000 End ∷ [])

abbrev exp_1-records : List Record
exp_1-records =
    runs 6 (λ i. CommandDone 0 i ∷ []) ++
    runs 4 (λ i. PacketFinished (1000000 + i * 1000000) i 1 0 ∷ []) ++
    runs 4 (λ i. PacketDelivered (11000000 + i * 1000000) i (Seg 1 (i * 960)) ∷
    PacketFinished (11000000 + i * 1000000) (4 + i) 2 0 ∷ []) ++
    (CommandDone 61000000 6 ∷ PacketDelivered 61000000 4 (Ack 1 960) ∷
    AckTaken 61000000 1 4800 65535 ∷ PacketFinished 61000000 8 3 0 ∷ PacketFinished 61000000 9 3 0 ∷
    CommandDone 61500000 7 ∷ PacketDelivered 62000000 5 (Ack 1 1920) ∷
    AckTaken 62000000 1 5760 65535 ∷ PacketDelivered 63000000 6 (Ack 1 2880) ∷
    AckTaken 63000000 1 6720 65535 ∷ PacketFinished 63000000 10 1 0 ∷
    PacketDelivered 64000000 7 (Ack 1 3840) ∷ AckTaken 64000000 1 7680 65535 ∷ []) ++
    runs 5 (λ i. PacketFinished (64000000 + i * 1000000) (11 + i) 1 0 ∷ []) ++
    (PacketDelivered 73000000 10 (Seg 1 5760) ∷ PacketFinished 73000000 16 2 0 ∷
    CommandDone 73163681 8 ∷ []) ++
    runs 5 (λ i. PacketDelivered (74000000 + i * 1000000) (11 + i) (Seg 1 (6720 + i * 960)) ∷
    PacketFinished (74000000 + i * 1000000) (17 + i) 2 0 ∷ []) ++
    (PacketDelivered 82000000 8 (Seg 1 3840) ∷ PacketDelivered 82000000 9 (Seg 1 4800) ∷
    PacketFinished 82000000 22 2 0 ∷ PacketFinished 82000000 23 2 0 ∷
    PacketDelivered 123000000 16 (Ack 1 3840) ∷ AckTaken 123000000 1 7680 65535 ∷
    PacketDelivered 123000000 17 (Ack 1 3840) ∷ AckTaken 123000000 1 7680 65535 ∷ []) ++
    runs 4 (λ i. PacketDelivered 123000000 (18 + i) (Ack 1 3840) ∷
    AckTaken 123000000 1 (6720 + i * 960) 3840 ∷ []) ++
    (PacketDelivered 123000000 22 (Ack 1 4800) ∷ AckTaken 123000000 1 3840 3840 ∷
    PacketDelivered 123000000 23 (Ack 1 11520) ∷ AckTaken 123000000 1 4080 3840 ∷ []) ++
    runs 4 (λ i. PacketFinished (124000000 + i * 1000000) (24 + i) 1 0 ∷ []) ++
    runs 4 (λ i. PacketDelivered (134000000 + i * 1000000) (24 + i) (Seg 1 (11520 + i * 960)) ∷
    PacketFinished (134000000 + i * 1000000) (28 + i) 2 0 ∷ []) ++
    (PacketDelivered 144000000 28 (Ack 1 12480) ∷ AckTaken 144000000 1 4305 3840 ∷
    PacketDelivered 145000000 29 (Ack 1 13440) ∷ AckTaken 145000000 1 4519 3840 ∷
    PacketFinished 145000000 32 1 0 ∷ PacketDelivered 146000000 30 (Ack 1 14400) ∷
    AckTaken 146000000 1 4722 3840 ∷ PacketFinished 146000000 33 1 0 ∷
    PacketDelivered 147000000 31 (Ack 1 15360) ∷ AckTaken 147000000 1 4917 3840 ∷
    PacketFinished 147000000 34 1 0 ∷ PacketFinished 148000000 35 1 0 ∷ StepsSpent 148000000 ∷ [])

exp_1 :
    trace_of (alone (spec 18446744073709551615 65535 98) exp_1-commands 116)
    ≡ record { records = exp_1-records; counters = counted 37 32 5 0 0 0 0 0 0 0 0 }
unfolding block_word double_rounds column_round diagonal_round quarter_round u32_at
exp_1 = refl
