-- LossAll: the report of a scenario, computed by the definitions.
use Rattle.emu_laws.proofs.Words.{Add, AnyProtocol, CommandDone, Config, End, Inject, List, Lost, PacketDropped, Pipe, Plain, Record, Slots, TailDrop, Timed, Udp, [], alone, block_word, column_round, diagonal_round, double_rounds, quarter_round, refl, trace_of, u32_at, ◌++◌, ◌+◌, ◌∷◌, ◌≡◌}
use Rattle.emu_laws.proofs.Makings.{at, counted, packet, pipe_with, rule_for_all, runs, spec, unmasked}

-- experiment loss-all
abbrev exp_0-commands : List Timed
exp_0-commands =
    (at 0 (Config 1 (pipe_with 0 0 (Slots 50) 1000000 unmasked TailDrop)) ∷
    at 0 (Add (rule_for_all 100 (Pipe 1) AnyProtocol)) ∷ []) ++
    runs 40 (λ i. at 0 (Inject (packet Udp 167772161 1000 167772162 2000 1000)) ∷ []) ++
    (at 20 End ∷ [])

abbrev exp_0-records : List Record
exp_0-records =
    runs 3 (λ i. CommandDone 0 i ∷ []) ++
    runs 39 (λ i. PacketDropped 0 i Plain Lost ∷ CommandDone 0 (3 + i) ∷ []) ++
    (PacketDropped 0 39 Plain Lost ∷ CommandDone 20 42 ∷ [])

exp_0 :
    trace_of (alone (spec 0 1000 1000000) exp_0-commands 83)
    ≡ record { records = exp_0-records; counters = counted 40 0 0 0 0 0 40 0 0 0 0 }
unfolding block_word double_rounds column_round diagonal_round quarter_round u32_at
exp_0 = refl
