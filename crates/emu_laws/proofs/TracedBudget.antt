-- TracedBudget: the report of a scenario, computed by the definitions.
use Rattle.emu_laws.proofs.Words.{Add, AnyProtocol, Budget, ByCommand, CommandDone, Config, End, Inject, InstanceIdentified, List, PacketArrived, PacketDelivered, PacketDropped, PacketFinished, PacketMade, Pipe, Plain, Record, Slots, TailDrop, Timed, Trace, Udp, [], alone, refl, trace_of, true, ◌++◌, ◌+◌, ◌∷◌, ◌≡◌}
use Rattle.emu_laws.proofs.Makings.{at, counted, packet, pipe_with, rule_for_all, runs, spec, unmasked}

-- experiment traced-budget
abbrev exp_0-commands : List Timed
exp_0-commands =
    (at 0 (Trace true) ∷ at 0 (Config 1 (pipe_with 1000000 0 (Slots 50) 0 unmasked TailDrop)) ∷
    at 0 (Add (rule_for_all 100 (Pipe 1) AnyProtocol)) ∷
    at 0 (Inject (packet Udp 167772161 1000 167772162 2000 1000)) ∷
    at 0 (Inject (packet Udp 167772161 1000 167772162 2000 1000)) ∷ at 20000000 End ∷ [])

abbrev exp_0-records : List Record
exp_0-records =
    runs 4 (λ i. CommandDone 0 i ∷ []) ++
    (PacketMade 0 0 (ByCommand 3) Udp 167772161 1000 167772162 2000 1000 ∷
    InstanceIdentified 0 1 0 0 0 0 0 0 ∷ PacketArrived 0 0 1 0 ∷ CommandDone 0 4 ∷
    PacketMade 0 1 (ByCommand 4) Udp 167772161 1000 167772162 2000 1000 ∷
    PacketDropped 0 1 Plain Budget ∷ PacketFinished 8000000 0 1 0 ∷
    PacketDelivered 8000001 0 Plain ∷ CommandDone 20000000 5 ∷ [])

exp_0 :
    trace_of (alone (spec 0 1 1000000) exp_0-commands 10)
    ≡ record { records = exp_0-records; counters = counted 2 1 0 0 0 0 0 0 0 0 1 }
exp_0 = refl
