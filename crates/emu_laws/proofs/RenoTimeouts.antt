-- RenoTimeouts: the report of a scenario, computed by the definitions.
use Rattle.emu_laws.proofs.Words.{Add, AnyProtocol, CommandDone, Config, End, Fixed, Flow, List, Lost, PacketDropped, Pipe, Record, Seg, Slots, TailDrop, Timed, TimerExpired, [], alone, block_word, column_round, diagonal_round, double_rounds, quarter_round, refl, trace_of, u32_at, ◌*◌, ◌++◌, ◌+◌, ◌∷◌, ◌≡◌}
use Rattle.emu_laws.proofs.Makings.{at, counted, flow, pipe_with, rule_for_all, runs, spec, unmasked}

-- experiment reno-timeouts
abbrev exp_0-commands : List Timed
exp_0-commands =
    (at 0 (Config 1 (pipe_with 0 0 (Slots 50) 1000000 unmasked TailDrop)) ∷
    at 0 (Add (rule_for_all 100 (Pipe 1) AnyProtocol)) ∷
    at 0 (Flow 1 (flow 167772161 1000 167772162 80 1460 10 65535 65535 (Fixed 1000))) ∷
    at 4000000000 End ∷ [])

abbrev exp_0-records : List Record
exp_0-records =
    runs 3 (λ i. CommandDone 0 i ∷ []) ++
    runs 3 (λ i. PacketDropped 0 i (Seg 1 (i * 1460)) Lost ∷ []) ++
    (TimerExpired 1000000000 1 1460 2920 ∷ PacketDropped 1000000000 3 (Seg 1 0) Lost ∷
    TimerExpired 3000000000 1 1460 2920 ∷ PacketDropped 3000000000 4 (Seg 1 0) Lost ∷
    CommandDone 4000000000 3 ∷ [])

exp_0 :
    trace_of (alone (spec 0 1000 1000000) exp_0-commands 11)
    ≡ record { records = exp_0-records; counters = counted 5 0 0 0 0 0 5 0 0 0 0 }
unfolding block_word double_rounds column_round diagonal_round quarter_round u32_at
exp_0 = refl
