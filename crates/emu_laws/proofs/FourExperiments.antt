-- FourExperiments: the report of a scenario, computed by the definitions.
use Rattle.emu_laws.proofs.Words.{Ack, AckTaken, Add, AnyProtocol, CommandDone, Config, Count, Deny, End, Fixed, Flow, Inject, InstanceLine, List, None, OnlyTcp, PacketDelivered, PacketFinished, Pipe, PipeLine, PipeShow, Plain, Record, RuleLine, Seg, Show, SkipTo, Slots, StepsSpent, TailDrop, Timed, Udp, [], address_span, alone, refl, trace_of, true, ◌*◌, ◌++◌, ◌+◌, ◌∷◌, ◌≡◌}
use Rattle.emu_laws.proofs.Makings.{at, counted, flow, packet, pipe_with, rule, rule_for_all, runs, spec, unmasked}

-- experiment a
abbrev exp_0-commands : List Timed
exp_0-commands =
    (at 0 (Config 1 (pipe_with 1000000 10 (Slots 50) 0 unmasked TailDrop)) ∷
    at 0 (Add (rule_for_all 100 (Pipe 1) AnyProtocol)) ∷
    at 0 (Inject (packet Udp 167772161 1000 167772162 2000 1000)) ∷ at 20000000 End ∷ [])

abbrev exp_0-records : List Record
exp_0-records =
    runs 3 (λ i. CommandDone 0 i ∷ []) ++
    (PacketFinished 8000000 0 1 0 ∷ PacketDelivered 18000000 0 Plain ∷ CommandDone 20000000 3 ∷ [])

exp_0 :
    trace_of (alone (spec 0 10 1000000) exp_0-commands 7)
    ≡ record { records = exp_0-records; counters = counted 1 1 0 0 0 0 0 0 0 0 0 }
exp_0 = refl

-- experiment n
abbrev exp_1-commands : List Timed
exp_1-commands =
    (at 0 (Add (rule_for_all 300 (Pipe 1) AnyProtocol)) ∷
    at 0 (Add (rule_for_all 100 Count AnyProtocol)) ∷
    at 0 (Add (rule_for_all 100 (SkipTo 300) AnyProtocol)) ∷
    at 0 (Add (rule_for_all 200 Deny AnyProtocol)) ∷
    at 0 (Config 1 (pipe_with 1000000 0 (Slots 50) 0 unmasked TailDrop)) ∷
    at 0 (Inject (packet Udp 167772161 1000 167772162 2000 1000)) ∷ at 0 Show ∷ at 0 PipeShow ∷
    at 9000000 End ∷ [])

abbrev exp_1-records : List Record
exp_1-records =
    runs 7 (λ i. CommandDone 0 i ∷ []) ++
    (RuleLine (rule_for_all 100 Count AnyProtocol) 1 1000 ∷
    RuleLine (rule_for_all 100 (SkipTo 300) AnyProtocol) 1 1000 ∷
    RuleLine (rule_for_all 200 Deny AnyProtocol) 0 0 ∷
    RuleLine (rule_for_all 300 (Pipe 1) AnyProtocol) 1 1000 ∷
    RuleLine (rule_for_all 65535 Deny AnyProtocol) 0 0 ∷ CommandDone 0 7 ∷
    PipeLine 1 (pipe_with 1000000 0 (Slots 50) 0 unmasked TailDrop) ∷
    InstanceLine 1 0 0 0 true 0 1 ∷ PacketFinished 8000000 0 1 0 ∷ PacketDelivered 8000001 0 Plain ∷
    CommandDone 9000000 8 ∷ [])

exp_1 :
    trace_of (alone (spec 0 10 1000000) exp_1-commands 12)
    ≡ record { records = exp_1-records; counters = counted 1 1 0 0 0 0 0 0 0 0 0 }
exp_1 = refl

-- experiment r
abbrev exp_2-commands : List Timed
exp_2-commands =
    (at 0 (Config 1 (pipe_with 10000000 10 (Slots 50) 0 unmasked TailDrop)) ∷
    at 0 (Config 2 (pipe_with 0 10 (Slots 50) 0 unmasked TailDrop)) ∷
    at 0 (Add (rule 100 (Pipe 1) OnlyTcp (address_span 167772161 32) None (address_span 167772162 32) None)) ∷
    at 0 (Add (rule 200 (Pipe 2) OnlyTcp (address_span 167772162 32) None (address_span 167772161 32) None)) ∷
    at 0 (Flow 1 (flow 167772161 1000 167772162 80 1460 4 65535 65535 (Fixed 1000))) ∷
    at 100000000 End ∷ [])

abbrev exp_2-records : List Record
exp_2-records =
    runs 5 (λ i. CommandDone 0 i ∷ []) ++
    runs 3 (λ i. PacketFinished (1200000 + i * 1200000) i 1 0 ∷ []) ++
    runs 3 (λ i. PacketDelivered (11200000 + i * 1200000) i (Seg 1 (i * 1460)) ∷
    PacketFinished (11200000 + i * 1200000) (3 + i) 2 0 ∷ []) ++
    (PacketDelivered 21200000 3 (Ack 1 1460) ∷ AckTaken 21200000 1 5840 65535 ∷
    PacketDelivered 22400000 4 (Ack 1 2920) ∷ AckTaken 22400000 1 7300 65535 ∷
    PacketFinished 22400000 6 1 0 ∷ PacketDelivered 23600000 5 (Ack 1 4380) ∷
    AckTaken 23600000 1 8760 65535 ∷ PacketDelivered 32400000 6 (Seg 1 4380) ∷
    PacketFinished 32400000 7 2 0 ∷ PacketDelivered 42400000 7 (Ack 1 5840) ∷
    AckTaken 42400000 1 10220 65535 ∷ CommandDone 100000000 5 ∷ [])

exp_2 :
    trace_of (alone (spec 1 100 1000000) exp_2-commands 30)
    ≡ record { records = exp_2-records; counters = counted 8 8 0 0 0 0 0 0 0 0 0 }
exp_2 = refl

-- experiment s
abbrev exp_3-commands : List Timed
exp_3-commands =
    (at 0 Show ∷ at 0 Show ∷ at 0 End ∷ [])

abbrev exp_3-records : List Record
exp_3-records =
    (CommandDone 0 0 ∷ RuleLine (rule_for_all 65535 Deny AnyProtocol) 0 0 ∷ CommandDone 0 1 ∷
    RuleLine (rule_for_all 65535 Deny AnyProtocol) 0 0 ∷ StepsSpent 0 ∷ [])

exp_3 :
    trace_of (alone (spec 0 10 2) exp_3-commands 3)
    ≡ record { records = exp_3-records; counters = counted 0 0 0 0 0 0 0 0 0 0 0 }
exp_3 = refl
