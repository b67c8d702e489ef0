-- TwoPipesThenDenied: the report of a scenario, computed by the definitions.
use Rattle.emu_laws.proofs.Words.{Add, AnyProtocol, CommandDone, Config, Denied, End, Inject, List, OnePass, PacketDropped, PacketFinished, PacketPassed, Pipe, Plain, Record, Slots, TailDrop, Timed, Udp, [], alone, false, refl, trace_of, ◌++◌, ◌+◌, ◌∷◌, ◌≡◌}
use Rattle.emu_laws.proofs.Makings.{at, counted, packet, pipe_with, rule_for_all, runs, spec, unmasked}

-- experiment two-pipes-then-denied
abbrev exp_0-commands : List Timed
exp_0-commands =
    (at 0 (OnePass false) ∷ at 0 (Config 1 (pipe_with 0 10 (Slots 50) 0 unmasked TailDrop)) ∷
    at 0 (Config 2 (pipe_with 0 5 (Slots 50) 0 unmasked TailDrop)) ∷
    at 0 (Add (rule_for_all 100 (Pipe 1) AnyProtocol)) ∷
    at 0 (Add (rule_for_all 200 (Pipe 2) AnyProtocol)) ∷
    at 0 (Inject (packet Udp 167772161 1000 167772162 2000 1000)) ∷ at 20000000 End ∷ [])

abbrev exp_0-records : List Record
exp_0-records =
    runs 6 (λ i. CommandDone 0 i ∷ []) ++
    (PacketFinished 0 0 1 0 ∷ PacketPassed 10000000 0 1 0 ∷ PacketFinished 10000000 0 2 0 ∷
    PacketPassed 15000000 0 2 0 ∷ PacketDropped 15000000 0 Plain Denied ∷ CommandDone 20000000 6 ∷
    [])

exp_0 :
    trace_of (alone (spec 0 1000 1000000) exp_0-commands 12)
    ≡ record { records = exp_0-records; counters = counted 1 0 0 1 0 0 0 0 0 0 0 }
exp_0 = refl
