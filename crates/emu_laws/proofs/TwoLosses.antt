-- TwoLosses: the report of a scenario, computed by the definitions.
use Rattle.emu_laws.proofs.Words.{Ack, AckTaken, Add, CommandDone, Config, Delete, Denied, Deny, End, Fixed, Flow, List, None, OnlyTcp, PacketDelivered, PacketDropped, PacketFinished, Pipe, Record, Seg, Slots, TailDrop, Timed, [], address_span, alone, refl, trace_of, ◌*◌, ◌++◌, ◌+◌, ◌∷◌, ◌≡◌}
use Rattle.emu_laws.proofs.Makings.{anywhere, at, counted, flow, pipe_with, rule, runs, spec, unmasked}

-- experiment two-losses
abbrev exp_0-commands : List Timed
exp_0-commands =
    (at 0 (Config 1 (pipe_with 8000000 10 (Slots 50) 0 unmasked TailDrop)) ∷
    at 0 (Config 2 (pipe_with 0 10 (Slots 50) 0 unmasked TailDrop)) ∷
    at 0 (Add (rule 100 (Pipe 1) OnlyTcp (address_span 167772161 32) None (address_span 167772162 32) None)) ∷
    at 0 (Add (rule 200 (Pipe 2) OnlyTcp (address_span 167772162 32) None (address_span 167772161 32) None)) ∷
    at 0 (Flow 1 (flow 167772161 1000 167772162 80 1000 22 4000 65535 (Fixed 1000))) ∷
    at 21000000 (Add (rule 50 Deny OnlyTcp (address_span 167772161 32) None anywhere None)) ∷
    at 22000000 (Delete 50) ∷
    at 129000000 (Add (rule 50 Deny OnlyTcp (address_span 167772161 32) None anywhere None)) ∷
    at 130000000 (Delete 50) ∷ at 1500000000 End ∷ [])

abbrev exp_0-records : List Record
exp_0-records =
    runs 5 (λ i. CommandDone 0 i ∷ []) ++
    runs 4 (λ i. PacketFinished (1040000 + i * 1040000) i 1 0 ∷ []) ++
    runs 4 (λ i. PacketDelivered (11040000 + i * 1040000) i (Seg 1 (i * 1000)) ∷
    PacketFinished (11040000 + i * 1040000) (4 + i) 2 0 ∷ []) ++
    (CommandDone 21000000 5 ∷ PacketDelivered 21040000 4 (Ack 1 1000) ∷
    AckTaken 21040000 1 4250 4000 ∷ PacketDropped 21040000 8 (Seg 1 4000) Denied ∷
    CommandDone 22000000 6 ∷ PacketDelivered 22080000 5 (Ack 1 2000) ∷
    AckTaken 22080000 1 4485 4000 ∷ PacketDelivered 23120000 6 (Ack 1 3000) ∷
    AckTaken 23120000 1 4707 4000 ∷ PacketFinished 23120000 9 1 0 ∷
    PacketDelivered 24160000 7 (Ack 1 4000) ∷ AckTaken 24160000 1 4919 4000 ∷
    PacketFinished 24160000 10 1 0 ∷ PacketFinished 25200000 11 1 0 ∷ []) ++
    runs 3 (λ i. PacketDelivered (33120000 + i * 1040000) (9 + i) (Seg 1 (5000 + i * 1000)) ∷
    PacketFinished (33120000 + i * 1040000) (12 + i) 2 0 ∷ []) ++
    (PacketDelivered 43120000 12 (Ack 1 4000) ∷ AckTaken 43120000 1 4919 4000 ∷
    PacketDelivered 44160000 13 (Ack 1 4000) ∷ AckTaken 44160000 1 4919 4000 ∷
    PacketDelivered 45200000 14 (Ack 1 4000) ∷ AckTaken 45200000 1 5000 2000 ∷
    PacketFinished 46240000 15 1 0 ∷ PacketFinished 47280000 16 1 0 ∷
    PacketDelivered 56240000 15 (Seg 1 4000) ∷ PacketFinished 56240000 17 2 0 ∷
    PacketDelivered 57280000 16 (Seg 1 8000) ∷ PacketFinished 57280000 18 2 0 ∷
    PacketDelivered 66240000 17 (Ack 1 8000) ∷ AckTaken 66240000 1 2000 2000 ∷
    PacketDelivered 67280000 18 (Ack 1 9000) ∷ AckTaken 67280000 1 2500 2000 ∷
    PacketFinished 67280000 19 1 0 ∷ PacketFinished 68320000 20 1 0 ∷
    PacketDelivered 77280000 19 (Seg 1 9000) ∷ PacketFinished 77280000 21 2 0 ∷
    PacketDelivered 78320000 20 (Seg 1 10000) ∷ PacketFinished 78320000 22 2 0 ∷
    PacketDelivered 87280000 21 (Ack 1 10000) ∷ AckTaken 87280000 1 2900 2000 ∷
    PacketDelivered 88320000 22 (Ack 1 11000) ∷ AckTaken 88320000 1 3244 2000 ∷ []) ++
    runs 3 (λ i. PacketFinished (88320000 + i * 1040000) (23 + i) 1 0 ∷ []) ++
    runs 3 (λ i. PacketDelivered (98320000 + i * 1040000) (23 + i) (Seg 1 (11000 + i * 1000)) ∷
    PacketFinished (98320000 + i * 1040000) (26 + i) 2 0 ∷ []) ++
    (PacketDelivered 108320000 26 (Ack 1 12000) ∷ AckTaken 108320000 1 3552 2000 ∷
    PacketDelivered 109360000 27 (Ack 1 13000) ∷ AckTaken 109360000 1 3833 2000 ∷
    PacketFinished 109360000 29 1 0 ∷ PacketDelivered 110400000 28 (Ack 1 14000) ∷
    AckTaken 110400000 1 4093 2000 ∷ []) ++
    runs 3 (λ i. PacketFinished (110400000 + i * 1040000) (30 + i) 1 0 ∷ []) ++
    runs 4 (λ i. PacketDelivered (119360000 + i * 1040000) (29 + i) (Seg 1 (14000 + i * 1000)) ∷
    PacketFinished (119360000 + i * 1040000) (33 + i) 2 0 ∷ []) ++
    (CommandDone 129000000 7 ∷ PacketDelivered 129360000 33 (Ack 1 15000) ∷
    AckTaken 129360000 1 4337 2000 ∷ PacketDropped 129360000 37 (Seg 1 18000) Denied ∷
    CommandDone 130000000 8 ∷ PacketDelivered 130400000 34 (Ack 1 16000) ∷
    AckTaken 130400000 1 4567 2000 ∷ PacketDelivered 131440000 35 (Ack 1 17000) ∷
    AckTaken 131440000 1 4785 2000 ∷ PacketFinished 131440000 38 1 0 ∷
    PacketDelivered 132480000 36 (Ack 1 18000) ∷ AckTaken 132480000 1 4993 2000 ∷
    PacketFinished 132480000 39 1 0 ∷ PacketFinished 133520000 40 1 0 ∷ []) ++
    runs 3 (λ i. PacketDelivered (141440000 + i * 1040000) (38 + i) (Seg 1 (19000 + i * 1000)) ∷
    PacketFinished (141440000 + i * 1040000) (41 + i) 2 0 ∷ []) ++
    (PacketDelivered 151440000 41 (Ack 1 18000) ∷ AckTaken 151440000 1 4993 2000 ∷
    PacketDelivered 152480000 42 (Ack 1 18000) ∷ AckTaken 152480000 1 4993 2000 ∷
    PacketDelivered 153520000 43 (Ack 1 18000) ∷ AckTaken 153520000 1 5000 2000 ∷
    PacketFinished 154560000 44 1 0 ∷ PacketDelivered 164560000 44 (Seg 1 18000) ∷
    PacketFinished 164560000 45 2 0 ∷ PacketDelivered 174560000 45 (Ack 1 22000) ∷
    AckTaken 174560000 1 2000 2000 ∷ CommandDone 1500000000 9 ∷ [])

exp_0 :
    trace_of (alone (spec 0 1000 1000000) exp_0-commands 144)
    ≡ record { records = exp_0-records; counters = counted 46 44 0 2 0 0 0 0 0 0 0 }
exp_0 = refl
