-- DeletedEverywhere: the report of a scenario, computed by the definitions.
use Rattle.emu_laws.proofs.Words.{Add, AnyProtocol, CommandDone, Config, Deleted, End, Inject, InstanceLine, List, PacketDropped, PacketFinished, Pipe, PipeDelete, PipeLine, PipeShow, Plain, Record, Slots, TailDrop, Timed, Train, Udp, [], alone, false, refl, trace_of, true, ◌++◌, ◌+◌, ◌∷◌, ◌≡◌}
use Rattle.emu_laws.proofs.Makings.{at, counted, masked, packet, pipe_with, rule_for_all, runs, spec, train}

-- experiment deleted-everywhere
abbrev exp_0-commands : List Timed
exp_0-commands =
    (at 0 (Config 1 (pipe_with 1000000 100 (Slots 50) 0 (masked 0 0 0 0 65535) TailDrop)) ∷
    at 0 (Add (rule_for_all 100 (Pipe 1) AnyProtocol)) ∷
    at 0 (Train 1 (train (packet Udp 167772161 1000 167772162 80 1000) 5 0)) ∷
    at 1000000 (Inject (packet Udp 167772161 1000 167772162 81 1000)) ∷ at 20000000 PipeShow ∷
    at 20000000 (PipeDelete 1) ∷ at 20000000 PipeShow ∷ at 200000000 End ∷ [])

abbrev exp_0-records : List Record
exp_0-records =
    runs 3 (λ i. CommandDone 0 i ∷ []) ++
    (CommandDone 1000000 3 ∷ PacketFinished 8000000 0 1 0 ∷ PacketFinished 9000000 5 1 1 ∷
    PacketFinished 16000000 1 1 0 ∷ CommandDone 20000000 4 ∷
    PipeLine 1 (pipe_with 1000000 100 (Slots 50) 0 (masked 0 0 0 0 65535) TailDrop) ∷
    InstanceLine 1 0 2 2000 true 2 5 ∷ InstanceLine 1 1 0 0 false 1 1 ∷ CommandDone 20000000 5 ∷
    []) ++
    runs 6 (λ i. PacketDropped 20000000 i Plain Deleted ∷ []) ++
    (CommandDone 20000000 6 ∷ CommandDone 200000000 7 ∷ [])

exp_0 :
    trace_of (alone (spec 0 64 1000000) exp_0-commands 17)
    ≡ record { records = exp_0-records; counters = counted 6 0 0 0 0 0 0 0 0 6 0 }
exp_0 = refl
