-- TracedBurst: the report of a scenario, computed by the definitions.
use Rattle.emu_laws.proofs.Words.{Add, ByCommand, CommandDone, Config, Denied, End, Full, Inject, InstanceIdentified, List, NoPipe, None, OnlyUdp, PacketArrived, PacketDelivered, PacketDropped, PacketFinished, PacketMade, Pipe, Plain, Record, Slots, TailDrop, Timed, Trace, Udp, [], alone, refl, trace_of, true, ◌++◌, ◌+◌, ◌∷◌, ◌≡◌}
use Rattle.emu_laws.proofs.Makings.{anywhere, at, counted, packet, pipe_with, ports, rule, runs, spec, unmasked}

-- experiment traced-burst
abbrev exp_0-commands : List Timed
exp_0-commands =
    (at 0 (Trace true) ∷ at 0 (Config 1 (pipe_with 1000000 0 (Slots 1) 0 unmasked TailDrop)) ∷
    at 0 (Add (rule 100 (Pipe 1) OnlyUdp anywhere None anywhere (ports 2000 2000))) ∷
    at 0 (Add (rule 200 (Pipe 2) OnlyUdp anywhere None anywhere (ports 2001 2001))) ∷ []) ++
    runs 3 (λ i. at 0 (Inject (packet Udp 167772161 1000 167772162 2000 1000)) ∷ []) ++
    (at 0 (Inject (packet Udp 167772161 1000 167772162 2001 1000)) ∷
    at 0 (Inject (packet Udp 167772161 1000 167772162 2002 1000)) ∷ at 20000000 End ∷ [])

abbrev exp_0-records : List Record
exp_0-records =
    runs 5 (λ i. CommandDone 0 i ∷ []) ++
    (PacketMade 0 0 (ByCommand 4) Udp 167772161 1000 167772162 2000 1000 ∷
    InstanceIdentified 0 1 0 0 0 0 0 0 ∷ PacketArrived 0 0 1 0 ∷ CommandDone 0 5 ∷
    PacketMade 0 1 (ByCommand 5) Udp 167772161 1000 167772162 2000 1000 ∷ PacketArrived 0 1 1 0 ∷
    CommandDone 0 6 ∷ PacketMade 0 2 (ByCommand 6) Udp 167772161 1000 167772162 2000 1000 ∷
    PacketArrived 0 2 1 0 ∷ PacketDropped 0 2 Plain Full ∷ CommandDone 0 7 ∷
    PacketMade 0 3 (ByCommand 7) Udp 167772161 1000 167772162 2001 1000 ∷
    PacketDropped 0 3 Plain NoPipe ∷ CommandDone 0 8 ∷
    PacketMade 0 4 (ByCommand 8) Udp 167772161 1000 167772162 2002 1000 ∷
    PacketDropped 0 4 Plain Denied ∷ PacketFinished 8000000 0 1 0 ∷
    PacketDelivered 8000001 0 Plain ∷ PacketFinished 16000000 1 1 0 ∷
    PacketDelivered 16000001 1 Plain ∷ CommandDone 20000000 9 ∷ [])

exp_0 :
    trace_of (alone (spec 0 3 1000000) exp_0-commands 19)
    ≡ record { records = exp_0-records; counters = counted 5 2 0 1 1 0 0 1 0 0 0 }
exp_0 = refl
