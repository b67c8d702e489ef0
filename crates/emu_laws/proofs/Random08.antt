-- Random08: the report of a scenario, computed by the definitions.
use Rattle.emu_laws.proofs.Words.{Ack, AckTaken, Add, Budget, CommandDone, Config, End, Fixed, Flow, Inject, InstanceLine, List, Lost, None, OnePass, OnlyTcp, PacketDelivered, PacketDropped, PacketFinished, Pipe, PipeDelete, PipeLine, PipeShow, Plain, Record, Seg, Slots, Stop, TailDrop, Timed, TimerExpired, Udp, [], address_span, alone, block_word, column_round, diagonal_round, double_rounds, false, quarter_round, refl, trace_of, u32_at, ◌++◌, ◌+◌, ◌∷◌, ◌≡◌}
use Rattle.emu_laws.proofs.Makings.{at, counted, flow, packet, pipe_with, rule, runs, spec, unmasked}

-- experiment -80zc-090_0198y-_88b_a-1bz-c188
abbrev exp_0-commands : List Timed
exp_0-commands =
    (at 0 (Config 1 (pipe_with 0 100 (Slots 500) 300000 unmasked TailDrop)) ∷
    at 0 (Config 2 (pipe_with 0 100 (Slots 50) 0 unmasked TailDrop)) ∷
    at 0 (Add (rule 100 (Pipe 1) OnlyTcp (address_span 167772161 32) None (address_span 167772162 32) None)) ∷
    at 0 (Add (rule 200 (Pipe 2) OnlyTcp (address_span 167772162 32) None (address_span 167772161 32) None)) ∷
    at 0 (Flow 1 (flow 167772161 1 167772162 80 1460 20 65535 65535 (Fixed 50))) ∷
    at 299999999 (Inject (packet Udp 167772417 65534 167772163 53 1500)) ∷ at 350000000 (Stop 1) ∷
    at 600000000 PipeShow ∷ at 650000000 (OnePass false) ∷ at 1450000000 PipeShow ∷
    at 1900000000 (Config 1 (pipe_with 1000000 20 (Slots 11) 0 unmasked TailDrop)) ∷
    at 2250000000 (PipeDelete 1) ∷
    at 2250000000 (Config 1 (pipe_with 0 100 (Slots 500) 300000 unmasked TailDrop)) ∷
    at 5000000000 End ∷ [])

abbrev exp_0-records : List Record
exp_0-records =
    runs 5 (λ i. CommandDone 0 i ∷ []) ++
    (PacketFinished 0 0 1 0 ∷ PacketFinished 0 1 1 0 ∷ PacketDropped 0 2 (Seg 1 2920) Lost ∷
    TimerExpired 50000000 1 1460 2920 ∷ PacketFinished 50000000 3 1 0 ∷
    PacketDelivered 100000000 0 (Seg 1 0) ∷ PacketDelivered 100000000 1 (Seg 1 1460) ∷
    PacketFinished 100000000 4 2 0 ∷ PacketFinished 100000000 5 2 0 ∷
    PacketDelivered 150000000 3 (Seg 1 0) ∷ PacketFinished 150000000 6 2 0 ∷
    TimerExpired 150000000 1 1460 2920 ∷ PacketFinished 150000000 7 1 0 ∷
    PacketDelivered 200000000 4 (Ack 1 1460) ∷ AckTaken 200000000 1 2920 2920 ∷
    PacketDelivered 200000000 5 (Ack 1 2920) ∷ AckTaken 200000000 1 3650 2920 ∷
    PacketFinished 200000000 8 1 0 ∷ PacketFinished 200000000 9 1 0 ∷
    PacketDelivered 250000000 7 (Seg 1 0) ∷ PacketDelivered 250000000 6 (Ack 1 2920) ∷
    AckTaken 250000000 1 3650 2920 ∷ PacketFinished 250000000 10 2 0 ∷
    TimerExpired 250000000 1 1460 2920 ∷ PacketFinished 250000000 11 1 0 ∷ CommandDone 299999999 5 ∷
    PacketDropped 299999999 12 Plain Budget ∷ PacketDelivered 300000000 8 (Seg 1 2920) ∷
    PacketDelivered 300000000 9 (Seg 1 4380) ∷ PacketFinished 300000000 13 2 0 ∷
    PacketFinished 300000000 14 2 0 ∷ CommandDone 350000000 6 ∷
    PacketDelivered 350000000 11 (Seg 1 2920) ∷ PacketDelivered 350000000 10 (Ack 1 2920) ∷
    PacketFinished 350000000 15 2 0 ∷ PacketDelivered 400000000 13 (Ack 1 4380) ∷
    PacketDelivered 400000000 14 (Ack 1 5840) ∷ PacketDelivered 450000000 15 (Ack 1 5840) ∷
    CommandDone 600000000 7 ∷ PipeLine 1 (pipe_with 0 100 (Slots 500) 300000 unmasked TailDrop) ∷
    InstanceLine 1 0 0 0 false 0 8 ∷ PipeLine 2 (pipe_with 0 100 (Slots 50) 0 unmasked TailDrop) ∷
    InstanceLine 2 0 0 0 false 0 7 ∷ CommandDone 650000000 8 ∷ CommandDone 1450000000 9 ∷
    PipeLine 1 (pipe_with 0 100 (Slots 500) 300000 unmasked TailDrop) ∷
    InstanceLine 1 0 0 0 false 0 8 ∷ PipeLine 2 (pipe_with 0 100 (Slots 50) 0 unmasked TailDrop) ∷
    InstanceLine 2 0 0 0 false 0 7 ∷ CommandDone 1900000000 10 ∷ CommandDone 2250000000 11 ∷
    CommandDone 2250000000 12 ∷ CommandDone 5000000000 13 ∷ [])

exp_0 :
    trace_of (alone (spec 1 4 1000000) exp_0-commands 61)
    ≡ record { records = exp_0-records; counters = counted 16 14 0 0 0 0 1 0 0 0 1 }
unfolding block_word double_rounds column_round diagonal_round quarter_round u32_at
exp_0 = refl
