-- PipeDeleted: the report of a scenario, computed by the definitions.
use Rattle.emu_laws.proofs.Words.{Add, AnyProtocol, CommandDone, Config, Deleted, End, Inject, List, NoPipe, PacketDropped, PacketFinished, Pipe, PipeDelete, Plain, Record, Slots, TailDrop, Timed, Udp, [], alone, refl, trace_of, ◌++◌, ◌+◌, ◌∷◌, ◌≡◌}
use Rattle.emu_laws.proofs.Makings.{at, counted, packet, pipe_with, rule_for_all, runs, spec, unmasked}

-- experiment pipe-deleted
abbrev exp_0-commands : List Timed
exp_0-commands =
    (at 0 (Config 1 (pipe_with 0 100 (Slots 50) 0 unmasked TailDrop)) ∷
    at 0 (Add (rule_for_all 100 (Pipe 1) AnyProtocol)) ∷
    at 0 (Inject (packet Udp 167772161 1000 167772162 2000 1000)) ∷ at 10000000 (PipeDelete 1) ∷
    at 10000000 (Inject (packet Udp 167772161 1000 167772162 2000 1000)) ∷ at 200000000 End ∷ [])

abbrev exp_0-records : List Record
exp_0-records =
    runs 3 (λ i. CommandDone 0 i ∷ []) ++
    (PacketFinished 0 0 1 0 ∷ CommandDone 10000000 3 ∷ PacketDropped 10000000 0 Plain Deleted ∷
    CommandDone 10000000 4 ∷ PacketDropped 10000000 1 Plain NoPipe ∷ CommandDone 200000000 5 ∷ [])

exp_0 :
    trace_of (alone (spec 0 1000 1000000) exp_0-commands 9)
    ≡ record { records = exp_0-records; counters = counted 2 0 0 0 1 0 0 0 0 1 0 }
exp_0 = refl
