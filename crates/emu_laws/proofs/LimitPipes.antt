-- LimitPipes: the report of a scenario, computed by the definitions.
use Rattle.emu_laws.proofs.Words.{CommandDone, CommandRefused, Config, End, List, Record, Slots, TailDrop, Timed, TooManyPipes, [], alone, refl, trace_of, ◌++◌, ◌+◌, ◌∷◌, ◌≡◌}
use Rattle.emu_laws.proofs.Makings.{at, counted, pipe_with, runs, spec, unmasked}

-- experiment limit-pipes
abbrev exp_0-commands : List Timed
exp_0-commands =
    runs 65 (λ i. at 0 (Config (1 + i) (pipe_with 0 0 (Slots 50) 0 unmasked TailDrop)) ∷ []) ++
    (at 0 End ∷ [])

abbrev exp_0-records : List Record
exp_0-records =
    runs 64 (λ i. CommandDone 0 i ∷ []) ++
    (CommandRefused 0 64 TooManyPipes ∷ CommandDone 0 65 ∷ [])

exp_0 :
    trace_of (alone (spec 0 1000 1000000) exp_0-commands 66)
    ≡ record { records = exp_0-records; counters = counted 0 0 0 0 0 0 0 0 0 0 0 }
exp_0 = refl
