-- AllowTrain: the report of a scenario, computed by the definitions.
use Rattle.emu_laws.proofs.Words.{Add, Allow, AnyProtocol, CommandDone, End, List, PacketDelivered, Plain, Record, Timed, Train, Udp, [], alone, refl, trace_of, ◌*◌, ◌++◌, ◌+◌, ◌∷◌, ◌≡◌}
use Rattle.emu_laws.proofs.Makings.{at, counted, packet, rule_for_all, runs, spec, train}

-- experiment allow-train
abbrev exp_0-commands : List Timed
exp_0-commands =
    (at 0 (Add (rule_for_all 100 Allow AnyProtocol)) ∷
    at 0 (Train 1 (train (packet Udp 167772161 1000 167772162 2000 1000) 3 5)) ∷ at 20 End ∷ [])

abbrev exp_0-records : List Record
exp_0-records =
    (CommandDone 0 0 ∷ CommandDone 0 1 ∷ []) ++
    runs 3 (λ i. PacketDelivered (1 + i * 5) i Plain ∷ []) ++
    (CommandDone 20 2 ∷ [])

exp_0 :
    trace_of (alone (spec 0 1000 1000000) exp_0-commands 9)
    ≡ record { records = exp_0-records; counters = counted 3 3 0 0 0 0 0 0 0 0 0 }
exp_0 = refl
