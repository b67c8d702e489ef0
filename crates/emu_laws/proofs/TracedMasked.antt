-- TracedMasked: the report of a scenario, computed by the definitions.
use Rattle.emu_laws.proofs.Words.{Add, AnyProtocol, ByCommand, CommandDone, Config, End, Inject, InstanceIdentified, List, PacketArrived, PacketDelivered, PacketFinished, PacketMade, Pipe, Plain, Record, Slots, TailDrop, Timed, Trace, Udp, [], alone, refl, trace_of, true, ◌++◌, ◌+◌, ◌∷◌, ◌≡◌}
use Rattle.emu_laws.proofs.Makings.{at, counted, masked, packet, pipe_with, rule_for_all, runs, spec}

-- experiment traced-masked
abbrev exp_0-commands : List Timed
exp_0-commands =
    (at 0 (Trace true) ∷
    at 0 (Config 1 (pipe_with 1000000 0 (Slots 50) 0 (masked 0 0 4294967295 0 0) TailDrop)) ∷
    at 0 (Add (rule_for_all 100 (Pipe 1) AnyProtocol)) ∷
    at 0 (Inject (packet Udp 167772161 1000 167772162 2000 1000)) ∷
    at 0 (Inject (packet Udp 167772161 1000 167772163 2000 1000)) ∷
    at 0 (Inject (packet Udp 167772161 1000 167772162 2000 1000)) ∷ at 20000000 End ∷ [])

abbrev exp_0-records : List Record
exp_0-records =
    runs 4 (λ i. CommandDone 0 i ∷ []) ++
    (PacketMade 0 0 (ByCommand 3) Udp 167772161 1000 167772162 2000 1000 ∷
    InstanceIdentified 0 1 0 0 0 167772162 0 0 ∷ PacketArrived 0 0 1 0 ∷ CommandDone 0 4 ∷
    PacketMade 0 1 (ByCommand 4) Udp 167772161 1000 167772163 2000 1000 ∷
    InstanceIdentified 0 1 1 0 0 167772163 0 0 ∷ PacketArrived 0 1 1 1 ∷ CommandDone 0 5 ∷
    PacketMade 0 2 (ByCommand 5) Udp 167772161 1000 167772162 2000 1000 ∷ PacketArrived 0 2 1 0 ∷
    PacketFinished 8000000 0 1 0 ∷ PacketFinished 8000000 1 1 1 ∷ PacketDelivered 8000001 0 Plain ∷
    PacketDelivered 8000001 1 Plain ∷ PacketFinished 16000000 2 1 0 ∷
    PacketDelivered 16000001 2 Plain ∷ CommandDone 20000000 6 ∷ [])

exp_0 :
    trace_of (alone (spec 0 1000 1000000) exp_0-commands 16)
    ≡ record { records = exp_0-records; counters = counted 3 3 0 0 0 0 0 0 0 0 0 }
exp_0 = refl
