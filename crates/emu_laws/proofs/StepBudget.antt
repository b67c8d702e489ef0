-- StepBudget: the report of a scenario, computed by the definitions.
use Rattle.emu_laws.proofs.Words.{AnyProtocol, CommandDone, Deny, End, List, Record, RuleLine, Show, StepsSpent, Timed, [], alone, refl, trace_of, ◌∷◌, ◌≡◌}
use Rattle.emu_laws.proofs.Makings.{at, counted, rule_for_all, spec}

-- experiment s
abbrev exp_0-commands : List Timed
exp_0-commands =
    (at 0 Show ∷ at 0 Show ∷ at 0 End ∷ [])

abbrev exp_0-records : List Record
exp_0-records =
    (CommandDone 0 0 ∷ RuleLine (rule_for_all 65535 Deny AnyProtocol) 0 0 ∷ CommandDone 0 1 ∷
    RuleLine (rule_for_all 65535 Deny AnyProtocol) 0 0 ∷ StepsSpent 0 ∷ [])

exp_0 :
    trace_of (alone (spec 0 10 2) exp_0-commands 3)
    ≡ record { records = exp_0-records; counters = counted 0 0 0 0 0 0 0 0 0 0 0 }
exp_0 = refl
