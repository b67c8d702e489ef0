-- FullAndLost: the report of a scenario, computed by the definitions.
use Rattle.emu_laws.proofs.Words.{Add, AnyProtocol, CommandDone, Config, End, Full, Inject, InstanceLine, List, Lost, PacketDelivered, PacketDropped, PacketFinished, Pipe, PipeLine, PipeShow, Plain, Record, Slots, TailDrop, Timed, Udp, [], alone, block_word, column_round, diagonal_round, double_rounds, quarter_round, refl, trace_of, true, u32_at, ◌++◌, ◌+◌, ◌∷◌, ◌≡◌}
use Rattle.emu_laws.proofs.Makings.{at, counted, packet, pipe_with, rule_for_all, runs, spec, unmasked}

-- experiment full-and-lost
abbrev exp_0-commands : List Timed
exp_0-commands =
    (at 0 (Config 1 (pipe_with 1000000 0 (Slots 1) 0 unmasked TailDrop)) ∷
    at 0 (Add (rule_for_all 100 (Pipe 1) AnyProtocol)) ∷
    at 0 (Inject (packet Udp 167772161 1000 167772162 2000 1000)) ∷
    at 0 (Inject (packet Udp 167772161 1000 167772162 2000 1000)) ∷
    at 1000000 (Inject (packet Udp 167772161 1000 167772162 2000 1000)) ∷
    at 2000000 (Config 1 (pipe_with 1000000 0 (Slots 1) 1000000 unmasked TailDrop)) ∷
    at 3000000 (Inject (packet Udp 167772161 1000 167772162 2000 1000)) ∷ at 4000000 PipeShow ∷
    at 20000000 End ∷ [])

abbrev exp_0-records : List Record
exp_0-records =
    runs 4 (λ i. CommandDone 0 i ∷ []) ++
    (CommandDone 1000000 4 ∷ PacketDropped 1000000 2 Plain Full ∷ CommandDone 2000000 5 ∷
    CommandDone 3000000 6 ∷ PacketDropped 3000000 3 Plain Lost ∷ CommandDone 4000000 7 ∷
    PipeLine 1 (pipe_with 1000000 0 (Slots 1) 1000000 unmasked TailDrop) ∷
    InstanceLine 1 0 1 1000 true 0 4 ∷ PacketFinished 8000000 0 1 0 ∷
    PacketDelivered 8000001 0 Plain ∷ PacketFinished 16000000 1 1 0 ∷
    PacketDelivered 16000001 1 Plain ∷ CommandDone 20000000 8 ∷ [])

exp_0 :
    trace_of (alone (spec 0 64 1000000) exp_0-commands 17)
    ≡ record { records = exp_0-records; counters = counted 4 2 0 0 0 0 1 1 0 0 0 }
unfolding block_word double_rounds column_round diagonal_round quarter_round u32_at
exp_0 = refl
