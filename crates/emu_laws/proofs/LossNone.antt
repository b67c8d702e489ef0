-- LossNone: the report of a scenario, computed by the definitions.
use Rattle.emu_laws.proofs.Words.{Add, AnyProtocol, CommandDone, Config, End, Inject, List, PacketDelivered, PacketFinished, Pipe, Plain, Record, Slots, TailDrop, Timed, Udp, [], alone, refl, trace_of, ◌++◌, ◌+◌, ◌∷◌, ◌≡◌}
use Rattle.emu_laws.proofs.Makings.{at, counted, packet, pipe_with, rule_for_all, runs, spec, unmasked}

-- experiment loss-none
abbrev exp_0-commands : List Timed
exp_0-commands =
    (at 0 (Config 1 (pipe_with 0 0 (Slots 50) 0 unmasked TailDrop)) ∷
    at 0 (Add (rule_for_all 100 (Pipe 1) AnyProtocol)) ∷ []) ++
    runs 40 (λ i. at 0 (Inject (packet Udp 167772161 1000 167772162 2000 1000)) ∷ []) ++
    (at 20 End ∷ [])

abbrev exp_0-records : List Record
exp_0-records =
    runs 42 (λ i. CommandDone 0 i ∷ []) ++
    runs 40 (λ i. PacketFinished 0 i 1 0 ∷ []) ++
    runs 40 (λ i. PacketDelivered 1 i Plain ∷ []) ++
    (CommandDone 20 42 ∷ [])

exp_0 :
    trace_of (alone (spec 0 1000 1000000) exp_0-commands 163)
    ≡ record { records = exp_0-records; counters = counted 40 40 0 0 0 0 0 0 0 0 0 }
exp_0 = refl
