-- Listings: the report of a scenario, computed by the definitions.
use Rattle.emu_laws.proofs.Words.{Add, AnyProtocol, CommandDone, Config, Count, Deny, End, Inject, InstanceLine, List, PacketDelivered, PacketFinished, Pipe, PipeLine, PipeShow, Plain, Record, RuleLine, Show, SkipTo, Slots, TailDrop, Timed, Udp, [], alone, refl, trace_of, true, ◌++◌, ◌+◌, ◌∷◌, ◌≡◌}
use Rattle.emu_laws.proofs.Makings.{at, counted, packet, pipe_with, rule_for_all, runs, spec, unmasked}

-- experiment n
abbrev exp_0-commands : List Timed
exp_0-commands =
    (at 0 (Add (rule_for_all 300 (Pipe 1) AnyProtocol)) ∷
    at 0 (Add (rule_for_all 100 Count AnyProtocol)) ∷
    at 0 (Add (rule_for_all 100 (SkipTo 300) AnyProtocol)) ∷
    at 0 (Add (rule_for_all 200 Deny AnyProtocol)) ∷
    at 0 (Config 1 (pipe_with 1000000 0 (Slots 50) 0 unmasked TailDrop)) ∷
    at 0 (Inject (packet Udp 167772161 1000 167772162 2000 1000)) ∷ at 0 Show ∷ at 0 PipeShow ∷
    at 9000000 End ∷ [])

abbrev exp_0-records : List Record
exp_0-records =
    runs 7 (λ i. CommandDone 0 i ∷ []) ++
    (RuleLine (rule_for_all 100 Count AnyProtocol) 1 1000 ∷
    RuleLine (rule_for_all 100 (SkipTo 300) AnyProtocol) 1 1000 ∷
    RuleLine (rule_for_all 200 Deny AnyProtocol) 0 0 ∷
    RuleLine (rule_for_all 300 (Pipe 1) AnyProtocol) 1 1000 ∷
    RuleLine (rule_for_all 65535 Deny AnyProtocol) 0 0 ∷ CommandDone 0 7 ∷
    PipeLine 1 (pipe_with 1000000 0 (Slots 50) 0 unmasked TailDrop) ∷
    InstanceLine 1 0 0 0 true 0 1 ∷ PacketFinished 8000000 0 1 0 ∷ PacketDelivered 8000001 0 Plain ∷
    CommandDone 9000000 8 ∷ [])

exp_0 :
    trace_of (alone (spec 0 10 1000000) exp_0-commands 12)
    ≡ record { records = exp_0-records; counters = counted 1 1 0 0 0 0 0 0 0 0 0 }
exp_0 = refl
