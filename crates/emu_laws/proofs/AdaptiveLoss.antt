-- AdaptiveLoss: the report of a scenario, computed by the definitions.
use Rattle.emu_laws.proofs.Words.{Ack, AckTaken, Adaptive, Add, CommandDone, Config, Delete, Denied, Deny, End, Flow, List, None, OnlyTcp, PacketDelivered, PacketDropped, PacketFinished, Pipe, Record, Seg, Slots, TailDrop, Timed, TimerExpired, [], address_span, alone, refl, trace_of, ◌*◌, ◌++◌, ◌+◌, ◌∷◌, ◌≡◌}
use Rattle.emu_laws.proofs.Makings.{anywhere, at, counted, flow, pipe_with, rule, runs, spec, unmasked}

-- experiment adaptive-loss
abbrev exp_0-commands : List Timed
exp_0-commands =
    (at 0 (Config 1 (pipe_with 8000000 400 (Slots 50) 0 unmasked TailDrop)) ∷
    at 0 (Config 2 (pipe_with 0 400 (Slots 50) 0 unmasked TailDrop)) ∷
    at 0 (Add (rule 100 (Pipe 1) OnlyTcp (address_span 167772161 32) None (address_span 167772162 32) None)) ∷
    at 0 (Add (rule 200 (Pipe 2) OnlyTcp (address_span 167772162 32) None (address_span 167772161 32) None)) ∷
    at 0 (Flow 1 (flow 167772161 1000 167772162 80 1000 16 4000 65535 Adaptive)) ∷
    at 801000000 (Add (rule 50 Deny OnlyTcp (address_span 167772161 32) None anywhere None)) ∷
    at 802000000 (Delete 50) ∷
    at 3300000000 (Add (rule 50 Deny OnlyTcp (address_span 167772161 32) None anywhere None)) ∷
    at 9000000000 (Delete 50) ∷ at 20000000000 End ∷ [])

abbrev exp_0-records : List Record
exp_0-records =
    runs 5 (λ i. CommandDone 0 i ∷ []) ++
    runs 4 (λ i. PacketFinished (1040000 + i * 1040000) i 1 0 ∷ []) ++
    runs 4 (λ i. PacketDelivered (401040000 + i * 1040000) i (Seg 1 (i * 1000)) ∷
    PacketFinished (401040000 + i * 1040000) (4 + i) 2 0 ∷ []) ++
    (CommandDone 801000000 5 ∷ PacketDelivered 801040000 4 (Ack 1 1000) ∷
    AckTaken 801040000 1 4250 4000 ∷ PacketDropped 801040000 8 (Seg 1 4000) Denied ∷
    CommandDone 802000000 6 ∷ PacketDelivered 802080000 5 (Ack 1 2000) ∷
    AckTaken 802080000 1 4485 4000 ∷ PacketDelivered 803120000 6 (Ack 1 3000) ∷
    AckTaken 803120000 1 4707 4000 ∷ PacketFinished 803120000 9 1 0 ∷
    PacketDelivered 804160000 7 (Ack 1 4000) ∷ AckTaken 804160000 1 4919 4000 ∷
    PacketFinished 804160000 10 1 0 ∷ PacketFinished 805200000 11 1 0 ∷ []) ++
    runs 3 (λ i. PacketDelivered (1203120000 + i * 1040000) (9 + i) (Seg 1 (5000 + i * 1000)) ∷
    PacketFinished (1203120000 + i * 1040000) (12 + i) 2 0 ∷ []) ++
    (PacketDelivered 1603120000 12 (Ack 1 4000) ∷ AckTaken 1603120000 1 4919 4000 ∷
    PacketDelivered 1604160000 13 (Ack 1 4000) ∷ AckTaken 1604160000 1 4919 4000 ∷
    PacketDelivered 1605200000 14 (Ack 1 4000) ∷ AckTaken 1605200000 1 5000 2000 ∷
    PacketFinished 1606240000 15 1 0 ∷ PacketFinished 1607280000 16 1 0 ∷
    PacketDelivered 2006240000 15 (Seg 1 4000) ∷ PacketFinished 2006240000 17 2 0 ∷
    PacketDelivered 2007280000 16 (Seg 1 8000) ∷ PacketFinished 2007280000 18 2 0 ∷
    PacketDelivered 2406240000 17 (Ack 1 8000) ∷ AckTaken 2406240000 1 2000 2000 ∷
    PacketDelivered 2407280000 18 (Ack 1 9000) ∷ AckTaken 2407280000 1 2500 2000 ∷
    PacketFinished 2407280000 19 1 0 ∷ PacketFinished 2408320000 20 1 0 ∷
    PacketDelivered 2807280000 19 (Seg 1 9000) ∷ PacketFinished 2807280000 21 2 0 ∷
    PacketDelivered 2808320000 20 (Seg 1 10000) ∷ PacketFinished 2808320000 22 2 0 ∷
    PacketDelivered 3207280000 21 (Ack 1 10000) ∷ AckTaken 3207280000 1 2900 2000 ∷
    PacketDelivered 3208320000 22 (Ack 1 11000) ∷ AckTaken 3208320000 1 3244 2000 ∷ []) ++
    runs 3 (λ i. PacketFinished (3208320000 + i * 1040000) (23 + i) 1 0 ∷ []) ++
    (CommandDone 3300000000 7 ∷ []) ++
    runs 3 (λ i. PacketDelivered (3608320000 + i * 1040000) (23 + i) (Seg 1 (11000 + i * 1000)) ∷
    PacketFinished (3608320000 + i * 1040000) (26 + i) 2 0 ∷ []) ++
    (PacketDelivered 4008320000 26 (Ack 1 12000) ∷ AckTaken 4008320000 1 3552 2000 ∷
    PacketDropped 4008320000 29 (Seg 1 14000) Denied ∷ PacketDelivered 4009360000 27 (Ack 1 13000) ∷
    AckTaken 4009360000 1 3833 2000 ∷ PacketDropped 4009360000 30 (Seg 1 15000) Denied ∷
    PacketDelivered 4010400000 28 (Ack 1 14000) ∷ AckTaken 4010400000 1 4093 2000 ∷
    TimerExpired 5488213279 1 1000 2000 ∷ PacketDropped 5488213279 31 (Seg 1 14000) Denied ∷
    TimerExpired 8443839837 1 1000 2000 ∷ PacketDropped 8443839837 32 (Seg 1 14000) Denied ∷
    CommandDone 9000000000 8 ∷ TimerExpired 14355092953 1 1000 2000 ∷
    PacketFinished 14356132953 33 1 0 ∷ PacketDelivered 14756132953 33 (Seg 1 14000) ∷
    PacketFinished 14756132953 34 2 0 ∷ PacketDelivered 15156132953 34 (Ack 1 15000) ∷
    AckTaken 15156132953 1 2000 2000 ∷ PacketFinished 15157172953 35 1 0 ∷
    PacketDelivered 15557172953 35 (Seg 1 15000) ∷ PacketFinished 15557172953 36 2 0 ∷
    PacketDelivered 15957172953 36 (Ack 1 16000) ∷ AckTaken 15957172953 1 2500 2000 ∷
    CommandDone 20000000000 9 ∷ [])

exp_0 :
    trace_of (alone (spec 0 1000 1000000) exp_0-commands 114)
    ≡ record { records = exp_0-records; counters = counted 37 32 0 5 0 0 0 0 0 0 0 }
exp_0 = refl
