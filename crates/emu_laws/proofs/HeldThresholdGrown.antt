-- HeldThresholdGrown: the report of a scenario, computed by the definitions.
use Rattle.emu_laws.proofs.Words.{Ack, AckTaken, Add, CommandDone, Config, Delete, Denied, Deny, End, Fixed, Flow, List, None, OnlyTcp, PacketDelivered, PacketDropped, PacketFinished, Pipe, Record, Seg, Slots, TailDrop, Timed, TimerExpired, [], address_span, alone, refl, trace_of, ◌*◌, ◌++◌, ◌+◌, ◌∷◌, ◌≡◌}
use Rattle.emu_laws.proofs.Makings.{anywhere, at, counted, flow, pipe_with, rule, runs, spec, unmasked}

-- experiment held-threshold-grown
abbrev exp_0-commands : List Timed
exp_0-commands =
    (at 0 (Config 1 (pipe_with 0 10 (Slots 50) 0 unmasked TailDrop)) ∷
    at 0 (Config 2 (pipe_with 320000 10 (Slots 50) 0 unmasked TailDrop)) ∷
    at 0 (Add (rule 100 (Pipe 1) OnlyTcp (address_span 167772161 32) None (address_span 167772162 32) None)) ∷
    at 0 (Add (rule 200 (Pipe 2) OnlyTcp (address_span 167772162 32) None (address_span 167772161 32) None)) ∷
    at 0 (Flow 1 (flow 167772161 1000 167772162 80 1000 20 65535 65535 (Fixed 1000))) ∷
    at 15000000 (Config 1 (pipe_with 0 1010 (Slots 50) 0 unmasked TailDrop)) ∷
    at 20500000 (Add (rule 50 Deny OnlyTcp (address_span 167772161 32) None anywhere None)) ∷
    at 21500000 (Delete 50) ∷
    at 100000000 (Add (rule 50 Deny OnlyTcp (address_span 167772161 32) None anywhere None)) ∷
    at 4000000000 End ∷ [])

abbrev exp_0-records : List Record
exp_0-records =
    runs 5 (λ i. CommandDone 0 i ∷ []) ++
    runs 4 (λ i. PacketFinished 0 i 1 0 ∷ []) ++
    runs 4 (λ i. PacketDelivered 10000000 i (Seg 1 (i * 1000)) ∷ []) ++
    runs 4 (λ i. PacketFinished (11000000 + i * 1000000) (4 + i) 2 0 ∷ []) ++
    (CommandDone 15000000 5 ∷ CommandDone 20500000 6 ∷ PacketDelivered 21000000 4 (Ack 1 1000) ∷
    AckTaken 21000000 1 5000 65535 ∷ PacketDropped 21000000 8 (Seg 1 4000) Denied ∷
    PacketDropped 21000000 9 (Seg 1 5000) Denied ∷ CommandDone 21500000 7 ∷ []) ++
    runs 3 (λ i. PacketDelivered (22000000 + i * 1000000) (5 + i) (Ack 1 (2000 + i * 1000)) ∷
    AckTaken (22000000 + i * 1000000) 1 (6000 + i * 1000) 65535 ∷
    PacketFinished (22000000 + i * 1000000) (10 + i * 2) 1 0 ∷
    PacketFinished (22000000 + i * 1000000) (11 + i * 2) 1 0 ∷ []) ++
    (CommandDone 100000000 8 ∷ TimerExpired 1024000000 1 1000 4000 ∷
    PacketDropped 1024000000 16 (Seg 1 4000) Denied ∷ PacketDelivered 1032000000 10 (Seg 1 6000) ∷
    PacketDelivered 1032000000 11 (Seg 1 7000) ∷ PacketDelivered 1033000000 12 (Seg 1 8000) ∷
    PacketDelivered 1033000000 13 (Seg 1 9000) ∷ PacketFinished 1033000000 17 2 0 ∷
    PacketDelivered 1034000000 14 (Seg 1 10000) ∷ PacketDelivered 1034000000 15 (Seg 1 11000) ∷
    []) ++
    runs 5 (λ i. PacketFinished (1034000000 + i * 1000000) (18 + i) 2 0 ∷ []) ++
    (PacketDelivered 1043000000 17 (Ack 1 4000) ∷ AckTaken 1043000000 1 1000 4000 ∷
    PacketDelivered 1044000000 18 (Ack 1 4000) ∷ AckTaken 1044000000 1 1000 4000 ∷
    PacketDelivered 1045000000 19 (Ack 1 4000) ∷ AckTaken 1045000000 1 7000 4000 ∷ []) ++
    runs 7 (λ i. PacketDropped 1045000000 (23 + i) (Seg 1 (4000 + i * 1000)) Denied ∷ []) ++
    runs 3 (λ i. PacketDelivered (1046000000 + i * 1000000) (20 + i) (Ack 1 4000) ∷
    AckTaken (1046000000 + i * 1000000) 1 (8000 + i * 1000) 4000 ∷
    PacketDropped (1046000000 + i * 1000000) (30 + i) (Seg 1 (11000 + i * 1000)) Denied ∷ []) ++
    (TimerExpired 3024000000 1 1000 4000 ∷ PacketDropped 3024000000 33 (Seg 1 4000) Denied ∷
    CommandDone 4000000000 9 ∷ [])

exp_0 :
    trace_of (alone (spec 0 1000 1000000) exp_0-commands 86)
    ≡ record { records = exp_0-records; counters = counted 34 20 0 14 0 0 0 0 0 0 0 }
exp_0 = refl
