-- TracedTwoPipes: the report of a scenario, computed by the definitions.
use Rattle.emu_laws.proofs.Words.{Add, Allow, AnyProtocol, ByCommand, CommandDone, Config, End, Inject, InstanceIdentified, List, OnePass, PacketArrived, PacketDelivered, PacketFinished, PacketMade, PacketPassed, Pipe, Plain, Record, Slots, TailDrop, Timed, Trace, Udp, [], alone, false, refl, trace_of, true, ◌++◌, ◌+◌, ◌∷◌, ◌≡◌}
use Rattle.emu_laws.proofs.Makings.{at, counted, masked, packet, pipe_with, rule_for_all, runs, spec, unmasked}

-- experiment traced-two-pipes
abbrev exp_0-commands : List Timed
exp_0-commands =
    (at 0 (Trace true) ∷ at 0 (OnePass false) ∷
    at 0 (Config 1 (pipe_with 0 10 (Slots 50) 0 unmasked TailDrop)) ∷
    at 0 (Config 2 (pipe_with 0 5 (Slots 50) 0 (masked 255 4294967295 4294967295 65535 65535) TailDrop)) ∷
    at 0 (Add (rule_for_all 100 (Pipe 1) AnyProtocol)) ∷
    at 0 (Add (rule_for_all 200 (Pipe 2) AnyProtocol)) ∷
    at 0 (Add (rule_for_all 300 Allow AnyProtocol)) ∷
    at 0 (Inject (packet Udp 167772161 1000 167772162 2000 1000)) ∷ at 20000000 End ∷ [])

abbrev exp_0-records : List Record
exp_0-records =
    runs 8 (λ i. CommandDone 0 i ∷ []) ++
    (PacketMade 0 0 (ByCommand 7) Udp 167772161 1000 167772162 2000 1000 ∷
    InstanceIdentified 0 1 0 0 0 0 0 0 ∷ PacketArrived 0 0 1 0 ∷ PacketFinished 0 0 1 0 ∷
    PacketPassed 10000000 0 1 0 ∷ InstanceIdentified 10000000 2 0 17 167772161 167772162 1000 2000 ∷
    PacketArrived 10000000 0 2 0 ∷ PacketFinished 10000000 0 2 0 ∷ PacketPassed 15000000 0 2 0 ∷
    PacketDelivered 15000001 0 Plain ∷ CommandDone 20000000 8 ∷ [])

exp_0 :
    trace_of (alone (spec 0 1000 1000000) exp_0-commands 15)
    ≡ record { records = exp_0-records; counters = counted 1 1 0 0 0 0 0 0 0 0 0 }
exp_0 = refl
