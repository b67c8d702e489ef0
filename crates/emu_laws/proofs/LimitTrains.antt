-- LimitTrains: the report of a scenario, computed by the definitions.
use Rattle.emu_laws.proofs.Words.{CommandDone, CommandRefused, End, FlowThere, List, Record, Timed, TooManyFlows, Train, Udp, [], alone, refl, trace_of, ◌++◌, ◌+◌, ◌∷◌, ◌≡◌}
use Rattle.emu_laws.proofs.Makings.{at, counted, packet, runs, spec, train}

-- experiment limit-trains
abbrev exp_0-commands : List Timed
exp_0-commands =
    runs 257 (λ i. at 0 (Train (1 + i) (train (packet Udp 167772161 1000 167772162 2000 40) 1 0)) ∷
    []) ++
    (at 0 (Train 256 (train (packet Udp 167772161 1000 167772162 2000 40) 1 0)) ∷ at 0 End ∷ [])

abbrev exp_0-records : List Record
exp_0-records =
    runs 256 (λ i. CommandDone 0 i ∷ []) ++
    (CommandRefused 0 256 TooManyFlows ∷ CommandRefused 0 257 FlowThere ∷ CommandDone 0 258 ∷ [])

exp_0 :
    trace_of (alone (spec 0 1000 1000000) exp_0-commands 259)
    ≡ record { records = exp_0-records; counters = counted 0 0 0 0 0 0 0 0 0 0 0 }
exp_0 = refl
