-- TraceOnAndOff: the report of a scenario, computed by the definitions.
use Rattle.emu_laws.proofs.Words.{Add, AnyProtocol, ByCommand, CommandDone, Config, End, Inject, List, PacketArrived, PacketDelivered, PacketFinished, PacketMade, Pipe, Plain, Record, Slots, TailDrop, Timed, Trace, Udp, [], alone, false, refl, trace_of, true, ◌++◌, ◌+◌, ◌∷◌, ◌≡◌}
use Rattle.emu_laws.proofs.Makings.{at, counted, packet, pipe_with, rule_for_all, runs, spec, unmasked}

-- experiment trace-on-and-off
abbrev exp_0-commands : List Timed
exp_0-commands =
    (at 0 (Config 1 (pipe_with 0 10 (Slots 50) 0 unmasked TailDrop)) ∷
    at 0 (Add (rule_for_all 100 (Pipe 1) AnyProtocol)) ∷
    at 0 (Inject (packet Udp 167772161 1000 167772162 2000 1000)) ∷ at 1 (Trace true) ∷
    at 1 (Inject (packet Udp 167772161 1000 167772162 2000 1000)) ∷ at 2 (Trace false) ∷
    at 2 (Inject (packet Udp 167772161 1000 167772162 2000 1000)) ∷ at 20000000 End ∷ [])

abbrev exp_0-records : List Record
exp_0-records =
    runs 3 (λ i. CommandDone 0 i ∷ []) ++
    (PacketFinished 0 0 1 0 ∷ CommandDone 1 3 ∷ CommandDone 1 4 ∷
    PacketMade 1 1 (ByCommand 4) Udp 167772161 1000 167772162 2000 1000 ∷ PacketArrived 1 1 1 0 ∷
    PacketFinished 1 1 1 0 ∷ CommandDone 2 5 ∷ CommandDone 2 6 ∷ PacketFinished 2 2 1 0 ∷ []) ++
    runs 3 (λ i. PacketDelivered (10000000 + i) i Plain ∷ []) ++
    (CommandDone 20000000 7 ∷ [])

exp_0 :
    trace_of (alone (spec 0 10 1000000) exp_0-commands 17)
    ≡ record { records = exp_0-records; counters = counted 3 3 0 0 0 0 0 0 0 0 0 }
exp_0 = refl
