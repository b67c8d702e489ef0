-- BudgetOnTheLink: the report of a scenario, computed by the definitions.
use Rattle.emu_laws.proofs.Words.{Add, Allow, AnyProtocol, Budget, CommandDone, End, Inject, List, PacketDelivered, PacketDropped, Plain, Record, Timed, Udp, [], alone, refl, trace_of, ◌++◌, ◌+◌, ◌∷◌, ◌≡◌}
use Rattle.emu_laws.proofs.Makings.{at, counted, packet, rule_for_all, runs, spec}

-- experiment budget-on-the-link
abbrev exp_0-commands : List Timed
exp_0-commands =
    (at 0 (Add (rule_for_all 100 Allow AnyProtocol)) ∷
    at 0 (Inject (packet Udp 167772161 1 167772162 2 100)) ∷
    at 0 (Inject (packet Udp 167772161 1 167772162 2 100)) ∷
    at 5 (Inject (packet Udp 167772161 1 167772162 2 100)) ∷ at 5 End ∷ [])

abbrev exp_0-records : List Record
exp_0-records =
    runs 3 (λ i. CommandDone 0 i ∷ []) ++
    (PacketDropped 0 1 Plain Budget ∷ PacketDelivered 1 0 Plain ∷ CommandDone 5 3 ∷
    CommandDone 5 4 ∷ [])

exp_0 :
    trace_of (alone (spec 0 1 1000000) exp_0-commands 9)
    ≡ record { records = exp_0-records; counters = counted 3 1 1 0 0 0 0 0 0 0 1 }
exp_0 = refl
