-- CountedBehind: the report of a scenario, computed by the definitions.
use Rattle.emu_laws.proofs.Words.{Add, Allow, AnyProtocol, CommandDone, Config, Count, Deny, End, Inject, List, OnePass, PacketDelivered, PacketFinished, PacketPassed, Pipe, Plain, Record, RuleLine, Show, Slots, TailDrop, Timed, Udp, [], alone, false, refl, trace_of, ◌++◌, ◌+◌, ◌∷◌, ◌≡◌}
use Rattle.emu_laws.proofs.Makings.{at, counted, packet, pipe_with, rule_for_all, runs, spec, unmasked}

-- experiment counted-behind
abbrev exp_0-commands : List Timed
exp_0-commands =
    (at 0 (OnePass false) ∷ at 0 (Config 1 (pipe_with 0 0 (Slots 50) 0 unmasked TailDrop)) ∷
    at 0 (Add (rule_for_all 100 Count AnyProtocol)) ∷
    at 0 (Add (rule_for_all 200 (Pipe 1) AnyProtocol)) ∷
    at 0 (Add (rule_for_all 300 Allow AnyProtocol)) ∷
    at 0 (Inject (packet Udp 167772161 1 167772162 2 100)) ∷ at 10 Show ∷ at 10 End ∷ [])

abbrev exp_0-records : List Record
exp_0-records =
    runs 6 (λ i. CommandDone 0 i ∷ []) ++
    (PacketFinished 0 0 1 0 ∷ PacketPassed 1 0 1 0 ∷ PacketDelivered 2 0 Plain ∷ CommandDone 10 6 ∷
    RuleLine (rule_for_all 100 Count AnyProtocol) 1 100 ∷
    RuleLine (rule_for_all 200 (Pipe 1) AnyProtocol) 1 100 ∷
    RuleLine (rule_for_all 300 Allow AnyProtocol) 1 100 ∷
    RuleLine (rule_for_all 65535 Deny AnyProtocol) 0 0 ∷ CommandDone 10 7 ∷ [])

exp_0 :
    trace_of (alone (spec 0 10 1000000) exp_0-commands 12)
    ≡ record { records = exp_0-records; counters = counted 1 1 0 0 0 0 0 0 0 0 0 }
exp_0 = refl
