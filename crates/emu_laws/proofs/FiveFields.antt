-- FiveFields: the report of a scenario, computed by the definitions.
use Rattle.emu_laws.proofs.Words.{Add, AnyProtocol, CommandDone, Config, Denied, End, Inject, List, OnePass, PacketDropped, PacketFinished, PacketPassed, Pipe, Plain, Record, Slots, TailDrop, Tcp, Timed, Udp, [], alone, false, refl, trace_of, ◌*◌, ◌++◌, ◌+◌, ◌∷◌, ◌≡◌}
use Rattle.emu_laws.proofs.Makings.{at, counted, masked, packet, pipe_with, rule_for_all, runs, spec}

-- experiment five-fields
abbrev exp_0-commands : List Timed
exp_0-commands =
    (at 0 (OnePass false) ∷
    at 0 (Config 1 (pipe_with 0 0 (Slots 50) 0 (masked 0 1 0 0 0) TailDrop)) ∷
    at 0 (Config 2 (pipe_with 0 0 (Slots 50) 0 (masked 0 0 1 0 0) TailDrop)) ∷
    at 0 (Config 3 (pipe_with 0 0 (Slots 50) 0 (masked 0 0 0 1 0) TailDrop)) ∷
    at 0 (Config 4 (pipe_with 0 0 (Slots 50) 0 (masked 0 0 0 0 1) TailDrop)) ∷
    at 0 (Config 5 (pipe_with 0 0 (Slots 50) 0 (masked 255 0 0 0 0) TailDrop)) ∷
    at 0 (Config 6 (pipe_with 0 0 (Slots 50) 0 (masked 255 4294967295 4294967295 65535 65535) TailDrop)) ∷
    []) ++
    runs 6 (λ i. at 0 (Add (rule_for_all (100 + i * 100) (Pipe (1 + i)) AnyProtocol)) ∷ []) ++
    (at 0 (Inject (packet Udp 167772162 1000 167772164 2000 100)) ∷
    at 10 (Inject (packet Udp 167772163 1000 167772164 2000 100)) ∷
    at 20 (Inject (packet Udp 167772162 1000 167772165 2000 100)) ∷
    at 30 (Inject (packet Udp 167772162 1001 167772164 2000 100)) ∷
    at 40 (Inject (packet Udp 167772162 1000 167772164 2001 100)) ∷
    at 50 (Inject (packet Tcp 167772162 1000 167772164 2000 100)) ∷
    at 60 (Inject (packet Udp 167772162 1000 167772164 2000 100)) ∷ at 100 End ∷ [])

abbrev exp_0-records : List Record
exp_0-records =
    runs 14 (λ i. CommandDone 0 i ∷ []) ++
    runs 6 (λ i. PacketFinished i 0 (1 + i) 0 ∷ PacketPassed (1 + i) 0 (1 + i) 0 ∷ []) ++
    (PacketDropped 6 0 Plain Denied ∷ CommandDone 10 14 ∷ PacketFinished 10 1 1 1 ∷
    PacketPassed 11 1 1 1 ∷ []) ++
    runs 4 (λ i. PacketFinished (11 + i) 1 (2 + i) 0 ∷ PacketPassed (12 + i) 1 (2 + i) 0 ∷ []) ++
    (PacketFinished 15 1 6 1 ∷ PacketPassed 16 1 6 1 ∷ PacketDropped 16 1 Plain Denied ∷
    CommandDone 20 15 ∷ PacketFinished 20 2 1 0 ∷ PacketPassed 21 2 1 0 ∷ PacketFinished 21 2 2 1 ∷
    PacketPassed 22 2 2 1 ∷ []) ++
    runs 3 (λ i. PacketFinished (22 + i) 2 (3 + i) 0 ∷ PacketPassed (23 + i) 2 (3 + i) 0 ∷ []) ++
    (PacketFinished 25 2 6 2 ∷ PacketPassed 26 2 6 2 ∷ PacketDropped 26 2 Plain Denied ∷
    CommandDone 30 16 ∷ PacketFinished 30 3 1 0 ∷ PacketPassed 31 3 1 0 ∷ PacketFinished 31 3 2 0 ∷
    PacketPassed 32 3 2 0 ∷ PacketFinished 32 3 3 1 ∷ PacketPassed 33 3 3 1 ∷
    PacketFinished 33 3 4 0 ∷ PacketPassed 34 3 4 0 ∷ PacketFinished 34 3 5 0 ∷
    PacketPassed 35 3 5 0 ∷ PacketFinished 35 3 6 3 ∷ PacketPassed 36 3 6 3 ∷
    PacketDropped 36 3 Plain Denied ∷ CommandDone 40 17 ∷ []) ++
    runs 3 (λ i. PacketFinished (40 + i) 4 (1 + i) 0 ∷ PacketPassed (41 + i) 4 (1 + i) 0 ∷ []) ++
    (PacketFinished 43 4 4 1 ∷ PacketPassed 44 4 4 1 ∷ PacketFinished 44 4 5 0 ∷
    PacketPassed 45 4 5 0 ∷ PacketFinished 45 4 6 4 ∷ PacketPassed 46 4 6 4 ∷
    PacketDropped 46 4 Plain Denied ∷ CommandDone 50 18 ∷ []) ++
    runs 4 (λ i. PacketFinished (50 + i) 5 (1 + i) 0 ∷ PacketPassed (51 + i) 5 (1 + i) 0 ∷ []) ++
    (PacketFinished 54 5 5 1 ∷ PacketPassed 55 5 5 1 ∷ PacketFinished 55 5 6 5 ∷
    PacketPassed 56 5 6 5 ∷ PacketDropped 56 5 Plain Denied ∷ CommandDone 60 19 ∷ []) ++
    runs 6 (λ i. PacketFinished (60 + i) 6 (1 + i) 0 ∷ PacketPassed (61 + i) 6 (1 + i) 0 ∷ []) ++
    (PacketDropped 66 6 Plain Denied ∷ CommandDone 100 20 ∷ [])

exp_0 :
    trace_of (alone (spec 0 64 1000000) exp_0-commands 112)
    ≡ record { records = exp_0-records; counters = counted 7 0 0 7 0 0 0 0 0 0 0 }
exp_0 = refl
