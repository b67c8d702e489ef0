-- BenchesAtOnce: the report of a scenario, computed by the definitions.
use Rattle.emu_laws.proofs.Words.{Add, AnyProtocol, CommandDone, Config, End, Inject, List, PacketDelivered, PacketFinished, Pipe, Plain, Record, Slots, TailDrop, Timed, Udp, [], alone, refl, trace_of, ◌++◌, ◌+◌, ◌∷◌, ◌≡◌}
use Rattle.emu_laws.proofs.Makings.{at, counted, packet, pipe_with, rule_for_all, runs, spec, unmasked}

-- experiment a
abbrev exp_0-commands : List Timed
exp_0-commands =
    (at 0 (Config 1 (pipe_with 1000000 10 (Slots 50) 0 unmasked TailDrop)) ∷
    at 0 (Add (rule_for_all 100 (Pipe 1) AnyProtocol)) ∷
    at 0 (Inject (packet Udp 167772161 1000 167772162 2000 1000)) ∷ at 20000000 End ∷ [])

abbrev exp_0-records : List Record
exp_0-records =
    runs 3 (λ i. CommandDone 0 i ∷ []) ++
    (PacketFinished 8000000 0 1 0 ∷ PacketDelivered 18000000 0 Plain ∷ CommandDone 20000000 3 ∷ [])

exp_0 :
    trace_of (alone (spec 0 10 1000000) exp_0-commands 7)
    ≡ record { records = exp_0-records; counters = counted 1 1 0 0 0 0 0 0 0 0 0 }
exp_0 = refl

-- experiment b
abbrev exp_1-commands : List Timed
exp_1-commands =
    (at 0 (Config 1 (pipe_with 1000000 10 (Slots 50) 0 unmasked TailDrop)) ∷
    at 0 (Add (rule_for_all 100 (Pipe 1) AnyProtocol)) ∷
    at 0 (Inject (packet Udp 167772161 1000 167772162 2000 1000)) ∷ at 20000000 End ∷ [])

abbrev exp_1-records : List Record
exp_1-records =
    runs 3 (λ i. CommandDone 0 i ∷ []) ++
    (PacketFinished 8000000 0 1 0 ∷ PacketDelivered 18000000 0 Plain ∷ CommandDone 20000000 3 ∷ [])

exp_1 :
    trace_of (alone (spec 0 10 1000000) exp_1-commands 7)
    ≡ record { records = exp_1-records; counters = counted 1 1 0 0 0 0 0 0 0 0 0 }
exp_1 = refl
