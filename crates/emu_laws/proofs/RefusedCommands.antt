-- RefusedCommands: the report of a scenario, computed by the definitions.
use Rattle.emu_laws.proofs.Words.{Add, Allow, AnyProtocol, BadNumber, BadSkip, CommandDone, CommandRefused, Delete, End, List, NoRule, NoSuchPipe, PipeDelete, Record, SkipTo, Timed, [], alone, refl, trace_of, ◌∷◌, ◌≡◌}
use Rattle.emu_laws.proofs.Makings.{at, counted, rule_for_all, spec}

-- experiment refused-commands
abbrev exp_0-commands : List Timed
exp_0-commands =
    (at 0 (Add (rule_for_all 65535 Allow AnyProtocol)) ∷
    at 5 (Add (rule_for_all 300 (SkipTo 300) AnyProtocol)) ∷ at 5 (Delete 7) ∷ at 9 (PipeDelete 9) ∷
    at 20 End ∷ [])

abbrev exp_0-records : List Record
exp_0-records =
    (CommandRefused 0 0 BadNumber ∷ CommandRefused 5 1 BadSkip ∷ CommandRefused 5 2 NoRule ∷
    CommandRefused 9 3 NoSuchPipe ∷ CommandDone 20 4 ∷ [])

exp_0 :
    trace_of (alone (spec 0 1000 1000000) exp_0-commands 5)
    ≡ record { records = exp_0-records; counters = counted 0 0 0 0 0 0 0 0 0 0 0 }
exp_0 = refl
