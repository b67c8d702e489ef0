-- ExitsInOrder: the report of a scenario, computed by the definitions.
use Rattle.emu_laws.proofs.Words.{Add, AnyProtocol, CommandDone, Config, End, Inject, List, PacketDelivered, PacketFinished, Pipe, Plain, Record, Slots, TailDrop, Timed, Udp, [], alone, refl, trace_of, ◌++◌, ◌+◌, ◌∷◌, ◌≡◌}
use Rattle.emu_laws.proofs.Makings.{at, counted, packet, pipe_with, rule_for_all, runs, spec, unmasked}

-- experiment exits-in-order
abbrev exp_0-commands : List Timed
exp_0-commands =
    (at 0 (Config 1 (pipe_with 0 100 (Slots 50) 0 unmasked TailDrop)) ∷
    at 0 (Add (rule_for_all 100 (Pipe 1) AnyProtocol)) ∷
    at 0 (Inject (packet Udp 167772161 1000 167772162 2000 1000)) ∷
    at 10000000 (Config 1 (pipe_with 0 1 (Slots 50) 0 unmasked TailDrop)) ∷
    at 20000000 (Inject (packet Udp 167772161 1000 167772162 2000 1000)) ∷ at 200000000 End ∷ [])

abbrev exp_0-records : List Record
exp_0-records =
    runs 3 (λ i. CommandDone 0 i ∷ []) ++
    (PacketFinished 0 0 1 0 ∷ CommandDone 10000000 3 ∷ CommandDone 20000000 4 ∷
    PacketFinished 20000000 1 1 0 ∷ PacketDelivered 100000000 0 Plain ∷
    PacketDelivered 100000000 1 Plain ∷ CommandDone 200000000 5 ∷ [])

exp_0 :
    trace_of (alone (spec 0 1000 1000000) exp_0-commands 12)
    ≡ record { records = exp_0-records; counters = counted 2 2 0 0 0 0 0 0 0 0 0 }
exp_0 = refl
