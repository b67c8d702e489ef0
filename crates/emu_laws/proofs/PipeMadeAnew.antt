-- PipeMadeAnew: the report of a scenario, computed by the definitions.
use Rattle.emu_laws.proofs.Words.{Add, AnyProtocol, CommandDone, Config, End, Inject, List, Lost, PacketDelivered, PacketDropped, PacketFinished, Pipe, PipeDelete, Plain, Record, Slots, TailDrop, Timed, Udp, [], alone, block_word, column_round, diagonal_round, double_rounds, quarter_round, refl, trace_of, u32_at, ◌++◌, ◌+◌, ◌∷◌, ◌≡◌}
use Rattle.emu_laws.proofs.Makings.{at, counted, packet, pipe_with, rule_for_all, runs, spec, unmasked}

-- experiment pipe-made-anew
abbrev exp_0-commands : List Timed
exp_0-commands =
    (at 0 (Config 1 (pipe_with 0 0 (Slots 50) 600000 unmasked TailDrop)) ∷
    at 0 (Add (rule_for_all 100 (Pipe 1) AnyProtocol)) ∷
    at 0 (Inject (packet Udp 167772161 1000 167772162 2000 1000)) ∷
    at 0 (Inject (packet Udp 167772161 1000 167772162 2000 1000)) ∷ at 10 (PipeDelete 1) ∷
    at 10 (Config 1 (pipe_with 0 0 (Slots 50) 600000 unmasked TailDrop)) ∷
    at 10 (Inject (packet Udp 167772161 1000 167772162 2000 1000)) ∷ at 20 End ∷ [])

abbrev exp_0-records : List Record
exp_0-records =
    runs 4 (λ i. CommandDone 0 i ∷ []) ++
    (PacketDropped 0 1 Plain Lost ∷ PacketFinished 0 0 1 0 ∷ PacketDelivered 1 0 Plain ∷ []) ++
    runs 3 (λ i. CommandDone 10 (4 + i) ∷ []) ++
    (PacketFinished 10 2 1 0 ∷ PacketDelivered 11 2 Plain ∷ CommandDone 20 7 ∷ [])

exp_0 :
    trace_of (alone (spec 0 1000 1000000) exp_0-commands 15)
    ≡ record { records = exp_0-records; counters = counted 3 2 0 0 0 0 1 0 0 0 0 }
unfolding block_word double_rounds column_round diagonal_round quarter_round u32_at
exp_0 = refl
