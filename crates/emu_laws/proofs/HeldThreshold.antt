-- HeldThreshold: the report of a scenario, computed by the definitions.
use Rattle.emu_laws.proofs.Words.{Ack, AckTaken, Add, CommandDone, Config, End, Fixed, Flow, List, Lost, None, OnlyTcp, PacketDelivered, PacketDropped, PacketFinished, Pipe, Record, Seg, Slots, TailDrop, Timed, TimerExpired, [], address_span, alone, block_word, column_round, diagonal_round, double_rounds, quarter_round, refl, trace_of, u32_at, ◌*◌, ◌++◌, ◌+◌, ◌∷◌, ◌≡◌}
use Rattle.emu_laws.proofs.Makings.{at, counted, flow, pipe_with, rule, runs, spec, unmasked}

-- experiment held-threshold
abbrev exp_0-commands : List Timed
exp_0-commands =
    (at 0 (Config 1 (pipe_with 0 10 (Slots 50) 0 unmasked TailDrop)) ∷
    at 0 (Config 2 (pipe_with 0 10 (Slots 50) 0 unmasked TailDrop)) ∷
    at 0 (Add (rule 100 (Pipe 1) OnlyTcp (address_span 167772161 32) None (address_span 167772162 32) None)) ∷
    at 0 (Add (rule 200 (Pipe 2) OnlyTcp (address_span 167772162 32) None (address_span 167772161 32) None)) ∷
    at 0 (Flow 1 (flow 167772161 1000 167772162 80 1000 20 65535 65535 (Fixed 1000))) ∷
    at 15000000 (Config 1 (pipe_with 0 10 (Slots 50) 1000000 unmasked TailDrop)) ∷
    at 4000000000 End ∷ [])

abbrev exp_0-records : List Record
exp_0-records =
    runs 5 (λ i. CommandDone 0 i ∷ []) ++
    runs 4 (λ i. PacketFinished 0 i 1 0 ∷ []) ++
    runs 4 (λ i. PacketDelivered 10000000 i (Seg 1 (i * 1000)) ∷ []) ++
    runs 4 (λ i. PacketFinished 10000000 (4 + i) 2 0 ∷ []) ++
    (CommandDone 15000000 5 ∷ []) ++
    runs 4 (λ i. PacketDelivered 20000000 (4 + i) (Ack 1 (1000 + i * 1000)) ∷
    AckTaken 20000000 1 (5000 + i * 1000) 65535 ∷ []) ++
    runs 8 (λ i. PacketDropped 20000000 (8 + i) (Seg 1 (4000 + i * 1000)) Lost ∷ []) ++
    (TimerExpired 1020000000 1 1000 4000 ∷ PacketDropped 1020000000 16 (Seg 1 4000) Lost ∷
    TimerExpired 3020000000 1 1000 4000 ∷ PacketDropped 3020000000 17 (Seg 1 4000) Lost ∷
    CommandDone 4000000000 6 ∷ [])

exp_0 :
    trace_of (alone (spec 0 1000 1000000) exp_0-commands 43)
    ≡ record { records = exp_0-records; counters = counted 18 8 0 0 0 0 10 0 0 0 0 }
unfolding block_word double_rounds column_round diagonal_round quarter_round u32_at
exp_0 = refl
