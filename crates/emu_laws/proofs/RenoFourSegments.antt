-- RenoFourSegments: the report of a scenario, computed by the definitions.
use Rattle.emu_laws.proofs.Words.{Ack, AckTaken, Add, CommandDone, Config, End, Fixed, Flow, List, None, OnlyTcp, PacketDelivered, PacketFinished, Pipe, Record, Seg, Slots, TailDrop, Timed, [], address_span, alone, refl, trace_of, ◌*◌, ◌++◌, ◌+◌, ◌∷◌, ◌≡◌}
use Rattle.emu_laws.proofs.Makings.{at, counted, flow, pipe_with, rule, runs, spec, unmasked}

-- experiment r
abbrev exp_0-commands : List Timed
exp_0-commands =
    (at 0 (Config 1 (pipe_with 10000000 10 (Slots 50) 0 unmasked TailDrop)) ∷
    at 0 (Config 2 (pipe_with 0 10 (Slots 50) 0 unmasked TailDrop)) ∷
    at 0 (Add (rule 100 (Pipe 1) OnlyTcp (address_span 167772161 32) None (address_span 167772162 32) None)) ∷
    at 0 (Add (rule 200 (Pipe 2) OnlyTcp (address_span 167772162 32) None (address_span 167772161 32) None)) ∷
    at 0 (Flow 1 (flow 167772161 1000 167772162 80 1460 4 65535 65535 (Fixed 1000))) ∷
    at 100000000 End ∷ [])

abbrev exp_0-records : List Record
exp_0-records =
    runs 5 (λ i. CommandDone 0 i ∷ []) ++
    runs 3 (λ i. PacketFinished (1200000 + i * 1200000) i 1 0 ∷ []) ++
    runs 3 (λ i. PacketDelivered (11200000 + i * 1200000) i (Seg 1 (i * 1460)) ∷
    PacketFinished (11200000 + i * 1200000) (3 + i) 2 0 ∷ []) ++
    (PacketDelivered 21200000 3 (Ack 1 1460) ∷ AckTaken 21200000 1 5840 65535 ∷
    PacketDelivered 22400000 4 (Ack 1 2920) ∷ AckTaken 22400000 1 7300 65535 ∷
    PacketFinished 22400000 6 1 0 ∷ PacketDelivered 23600000 5 (Ack 1 4380) ∷
    AckTaken 23600000 1 8760 65535 ∷ PacketDelivered 32400000 6 (Seg 1 4380) ∷
    PacketFinished 32400000 7 2 0 ∷ PacketDelivered 42400000 7 (Ack 1 5840) ∷
    AckTaken 42400000 1 10220 65535 ∷ CommandDone 100000000 5 ∷ [])

exp_0 :
    trace_of (alone (spec 1 100 1000000) exp_0-commands 30)
    ≡ record { records = exp_0-records; counters = counted 8 8 0 0 0 0 0 0 0 0 0 }
exp_0 = refl
