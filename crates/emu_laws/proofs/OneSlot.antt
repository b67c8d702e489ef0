-- OneSlot: the report of a scenario, computed by the definitions.
use Rattle.emu_laws.proofs.Words.{Add, AnyProtocol, CommandDone, Config, End, Full, Inject, InstanceLine, List, PacketDelivered, PacketDropped, PacketFinished, Pipe, PipeLine, PipeShow, Plain, Record, Slots, TailDrop, Timed, Udp, [], alone, refl, trace_of, true, ◌++◌, ◌+◌, ◌∷◌, ◌≡◌}
use Rattle.emu_laws.proofs.Makings.{at, counted, packet, pipe_with, rule_for_all, runs, spec, unmasked}

-- experiment one-slot
abbrev exp_0-commands : List Timed
exp_0-commands =
    (at 0 (Config 1 (pipe_with 1000000 0 (Slots 1) 0 unmasked TailDrop)) ∷
    at 0 (Add (rule_for_all 100 (Pipe 1) AnyProtocol)) ∷ []) ++
    runs 3 (λ i. at 0 (Inject (packet Udp 167772161 1000 167772162 2000 1000)) ∷ []) ++
    (at 0 PipeShow ∷ at 20000000 End ∷ [])

abbrev exp_0-records : List Record
exp_0-records =
    runs 5 (λ i. CommandDone 0 i ∷ []) ++
    (PacketDropped 0 2 Plain Full ∷ CommandDone 0 5 ∷
    PipeLine 1 (pipe_with 1000000 0 (Slots 1) 0 unmasked TailDrop) ∷
    InstanceLine 1 0 1 1000 true 0 3 ∷ PacketFinished 8000000 0 1 0 ∷
    PacketDelivered 8000001 0 Plain ∷ PacketFinished 16000000 1 1 0 ∷
    PacketDelivered 16000001 1 Plain ∷ CommandDone 20000000 6 ∷ [])

exp_0 :
    trace_of (alone (spec 0 1000 1000000) exp_0-commands 14)
    ≡ record { records = exp_0-records; counters = counted 3 2 0 0 0 0 0 1 0 0 0 }
exp_0 = refl
