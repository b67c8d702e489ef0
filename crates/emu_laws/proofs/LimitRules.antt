-- LimitRules: the report of a scenario, computed by the definitions.
use Rattle.emu_laws.proofs.Words.{Add, AnyProtocol, CommandDone, CommandRefused, Deny, End, List, Record, RulesFull, Timed, [], alone, refl, trace_of, ◌++◌, ◌+◌, ◌∷◌, ◌≡◌}
use Rattle.emu_laws.proofs.Makings.{at, counted, rule_for_all, runs, spec}

-- experiment limit-rules
abbrev exp_0-commands : List Timed
exp_0-commands =
    runs 257 (λ i. at 0 (Add (rule_for_all (1 + i) Deny AnyProtocol)) ∷ []) ++
    (at 0 End ∷ [])

abbrev exp_0-records : List Record
exp_0-records =
    runs 256 (λ i. CommandDone 0 i ∷ []) ++
    (CommandRefused 0 256 RulesFull ∷ CommandDone 0 257 ∷ [])

exp_0 :
    trace_of (alone (spec 0 1000 1000000) exp_0-commands 258)
    ≡ record { records = exp_0-records; counters = counted 0 0 0 0 0 0 0 0 0 0 0 }
exp_0 = refl
