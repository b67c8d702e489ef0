-- AllowLink: the report of a scenario, computed by the definitions.
use Rattle.emu_laws.proofs.Words.{Add, Allow, AnyProtocol, CommandDone, End, Inject, List, PacketDelivered, Plain, Record, Timed, Udp, [], alone, refl, trace_of, ◌∷◌, ◌≡◌}
use Rattle.emu_laws.proofs.Makings.{at, counted, packet, rule_for_all, spec}

-- experiment allow-link
abbrev exp_0-commands : List Timed
exp_0-commands =
    (at 0 (Add (rule_for_all 100 Allow AnyProtocol)) ∷
    at 0 (Inject (packet Udp 167772161 1000 167772162 2000 1000)) ∷ at 10 End ∷ [])

abbrev exp_0-records : List Record
exp_0-records =
    (CommandDone 0 0 ∷ CommandDone 0 1 ∷ PacketDelivered 1 0 Plain ∷ CommandDone 10 2 ∷ [])

exp_0 :
    trace_of (alone (spec 0 1000 1000000) exp_0-commands 5)
    ≡ record { records = exp_0-records; counters = counted 1 1 0 0 0 0 0 0 0 0 0 }
exp_0 = refl
