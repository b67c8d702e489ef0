-- FastRetransmit: the report of a scenario, computed by the definitions.
use Rattle.emu_laws.proofs.Words.{Ack, AckTaken, Add, CommandDone, Config, Delete, Denied, Deny, End, Fixed, Flow, List, None, OnlyTcp, PacketDelivered, PacketDropped, PacketFinished, Pipe, Record, Seg, Slots, TailDrop, Timed, [], address_span, alone, refl, trace_of, ◌*◌, ◌++◌, ◌+◌, ◌∷◌, ◌≡◌}
use Rattle.emu_laws.proofs.Makings.{anywhere, at, counted, flow, pipe_with, rule, runs, spec, unmasked}

-- experiment fast-retransmit
abbrev exp_0-commands : List Timed
exp_0-commands =
    (at 0 (Config 1 (pipe_with 8000000 10 (Slots 50) 0 unmasked TailDrop)) ∷
    at 0 (Config 2 (pipe_with 0 10 (Slots 50) 0 unmasked TailDrop)) ∷
    at 0 (Add (rule 100 (Pipe 1) OnlyTcp (address_span 167772161 32) None (address_span 167772162 32) None)) ∷
    at 0 (Add (rule 200 (Pipe 2) OnlyTcp (address_span 167772162 32) None (address_span 167772161 32) None)) ∷
    at 0 (Flow 1 (flow 167772161 1000 167772162 80 1000 8 4000 65535 (Fixed 1000))) ∷
    at 21000000 (Add (rule 50 Deny OnlyTcp (address_span 167772161 32) None anywhere None)) ∷
    at 22000000 (Delete 50) ∷ at 100000000 End ∷ [])

abbrev exp_0-records : List Record
exp_0-records =
    runs 5 (λ i. CommandDone 0 i ∷ []) ++
    runs 4 (λ i. PacketFinished (1040000 + i * 1040000) i 1 0 ∷ []) ++
    runs 4 (λ i. PacketDelivered (11040000 + i * 1040000) i (Seg 1 (i * 1000)) ∷
    PacketFinished (11040000 + i * 1040000) (4 + i) 2 0 ∷ []) ++
    (CommandDone 21000000 5 ∷ PacketDelivered 21040000 4 (Ack 1 1000) ∷
    AckTaken 21040000 1 4250 4000 ∷ PacketDropped 21040000 8 (Seg 1 4000) Denied ∷
    CommandDone 22000000 6 ∷ PacketDelivered 22080000 5 (Ack 1 2000) ∷
    AckTaken 22080000 1 4485 4000 ∷ PacketDelivered 23120000 6 (Ack 1 3000) ∷
    AckTaken 23120000 1 4707 4000 ∷ PacketFinished 23120000 9 1 0 ∷
    PacketDelivered 24160000 7 (Ack 1 4000) ∷ AckTaken 24160000 1 4919 4000 ∷
    PacketFinished 24160000 10 1 0 ∷ PacketFinished 25200000 11 1 0 ∷ []) ++
    runs 3 (λ i. PacketDelivered (33120000 + i * 1040000) (9 + i) (Seg 1 (5000 + i * 1000)) ∷
    PacketFinished (33120000 + i * 1040000) (12 + i) 2 0 ∷ []) ++
    (PacketDelivered 43120000 12 (Ack 1 4000) ∷ AckTaken 43120000 1 4919 4000 ∷
    PacketDelivered 44160000 13 (Ack 1 4000) ∷ AckTaken 44160000 1 4919 4000 ∷
    PacketDelivered 45200000 14 (Ack 1 4000) ∷ AckTaken 45200000 1 5000 2000 ∷
    PacketFinished 46240000 15 1 0 ∷ PacketDelivered 56240000 15 (Seg 1 4000) ∷
    PacketFinished 56240000 16 2 0 ∷ PacketDelivered 66240000 16 (Ack 1 8000) ∷
    AckTaken 66240000 1 2000 2000 ∷ CommandDone 100000000 7 ∷ [])

exp_0 :
    trace_of (alone (spec 0 1000 1000000) exp_0-commands 57)
    ≡ record { records = exp_0-records; counters = counted 17 16 0 1 0 0 0 0 0 0 0 }
exp_0 = refl
