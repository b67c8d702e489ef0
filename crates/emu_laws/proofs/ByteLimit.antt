-- ByteLimit: the report of a scenario, computed by the definitions.
use Rattle.emu_laws.proofs.Words.{Add, AnyProtocol, CommandDone, Config, End, Full, Inject, KBytes, List, PacketDelivered, PacketDropped, PacketFinished, Pipe, Plain, Record, TailDrop, Timed, Udp, [], alone, refl, trace_of, ◌++◌, ◌+◌, ◌∷◌, ◌≡◌}
use Rattle.emu_laws.proofs.Makings.{at, counted, packet, pipe_with, rule_for_all, runs, spec, unmasked}

-- experiment byte-limit
abbrev exp_0-commands : List Timed
exp_0-commands =
    (at 0 (Config 1 (pipe_with 1000000 0 (KBytes 1) 0 unmasked TailDrop)) ∷
    at 0 (Add (rule_for_all 100 (Pipe 1) AnyProtocol)) ∷
    at 0 (Inject (packet Udp 167772161 1000 167772162 2000 1500)) ∷ []) ++
    runs 3 (λ i. at 0 (Inject (packet Udp 167772161 1000 167772162 2000 600)) ∷ []) ++
    (at 20000000 End ∷ [])

abbrev exp_0-records : List Record
exp_0-records =
    runs 3 (λ i. CommandDone 0 i ∷ []) ++
    (PacketDropped 0 0 Plain Full ∷ []) ++
    runs 3 (λ i. CommandDone 0 (3 + i) ∷ []) ++
    (PacketDropped 0 3 Plain Full ∷ PacketFinished 4800000 1 1 0 ∷ PacketDelivered 4800001 1 Plain ∷
    PacketFinished 9600000 2 1 0 ∷ PacketDelivered 9600001 2 Plain ∷ CommandDone 20000000 6 ∷ [])

exp_0 :
    trace_of (alone (spec 0 1000 1000000) exp_0-commands 15)
    ≡ record { records = exp_0-records; counters = counted 4 2 0 0 0 0 0 2 0 0 0 }
exp_0 = refl
