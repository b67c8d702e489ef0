-- AcknowledgementPorts: the report of a scenario, computed by the definitions.
use Rattle.emu_laws.proofs.Words.{Ack, AckTaken, Add, AnyProtocol, CommandDone, Config, Deny, End, Fixed, Flow, List, OnlyTcp, PacketDelivered, PacketFinished, Pipe, Record, RuleLine, Seg, Show, Slots, TailDrop, Timed, [], address_span, alone, refl, trace_of, ◌*◌, ◌++◌, ◌+◌, ◌∷◌, ◌≡◌}
use Rattle.emu_laws.proofs.Makings.{at, counted, flow, pipe_with, ports, rule, rule_for_all, runs, spec, unmasked}

-- experiment acknowledgement-ports
abbrev exp_0-commands : List Timed
exp_0-commands =
    (at 0 (Config 1 (pipe_with 0 10 (Slots 50) 0 unmasked TailDrop)) ∷
    at 0 (Config 2 (pipe_with 0 10 (Slots 50) 0 unmasked TailDrop)) ∷
    at 0 (Add (rule 100 (Pipe 1) OnlyTcp (address_span 167772161 32) (ports 1000 1000) (address_span 167772162 32) (ports 80 80))) ∷
    at 0 (Add (rule 200 (Pipe 2) OnlyTcp (address_span 167772162 32) (ports 80 80) (address_span 167772161 32) (ports 1000 1000))) ∷
    at 0 (Flow 1 (flow 167772161 1000 167772162 80 1000 5 65535 65535 (Fixed 1000))) ∷
    at 100000000 Show ∷ at 100000000 End ∷ [])

abbrev exp_0-records : List Record
exp_0-records =
    runs 5 (λ i. CommandDone 0 i ∷ []) ++
    runs 4 (λ i. PacketFinished 0 i 1 0 ∷ []) ++
    runs 4 (λ i. PacketDelivered 10000000 i (Seg 1 (i * 1000)) ∷ []) ++
    runs 4 (λ i. PacketFinished 10000000 (4 + i) 2 0 ∷ []) ++
    runs 4 (λ i. PacketDelivered 20000000 (4 + i) (Ack 1 (1000 + i * 1000)) ∷
    AckTaken 20000000 1 (5000 + i * 1000) 65535 ∷ []) ++
    (PacketFinished 20000000 8 1 0 ∷ PacketDelivered 30000000 8 (Seg 1 4000) ∷
    PacketFinished 30000000 9 2 0 ∷ PacketDelivered 40000000 9 (Ack 1 5000) ∷
    AckTaken 40000000 1 9000 65535 ∷ CommandDone 100000000 5 ∷
    RuleLine (rule 100 (Pipe 1) OnlyTcp (address_span 167772161 32) (ports 1000 1000) (address_span 167772162 32) (ports 80 80)) 5 5200 ∷
    RuleLine (rule 200 (Pipe 2) OnlyTcp (address_span 167772162 32) (ports 80 80) (address_span 167772161 32) (ports 1000 1000)) 5 200 ∷
    RuleLine (rule_for_all 65535 Deny AnyProtocol) 0 0 ∷ CommandDone 100000000 6 ∷ [])

exp_0 :
    trace_of (alone (spec 0 64 1000000) exp_0-commands 37)
    ≡ record { records = exp_0-records; counters = counted 10 10 0 0 0 0 0 0 0 0 0 }
exp_0 = refl
