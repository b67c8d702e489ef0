-- CodelReentry: the report of a scenario, computed by the definitions.
use Rattle.emu_laws.proofs.Words.{Add, AnyProtocol, Codel, CommandDone, Config, ControlledDelay, End, List, PacketDelivered, PacketDropped, PacketFinished, Pipe, Plain, Record, Slots, Timed, Train, Udp, [], alone, control_step, refl, trace_of, ◌*◌, ◌++◌, ◌+◌, ◌∷◌, ◌≡◌}
use Rattle.emu_laws.proofs.Makings.{at, counted, packet, pipe_with, rule_for_all, runs, spec, train, unmasked}

-- experiment codel-reentry
abbrev exp_0-commands : List Timed
exp_0-commands =
    (at 0 (Config 1 (pipe_with 1000000 0 (Slots 50) 0 unmasked (ControlledDelay 5000000 20000000))) ∷
    at 0 (Add (rule_for_all 100 (Pipe 1) AnyProtocol)) ∷
    at 0 (Train 1 (train (packet Udp 167772161 1000 167772162 2000 1000) 16 0)) ∷
    at 150000000 (Train 2 (train (packet Udp 167772161 1000 167772162 2000 1000) 12 0)) ∷
    at 700000000 (Train 3 (train (packet Udp 167772161 1000 167772162 2000 1000) 12 0)) ∷
    at 1000000000 End ∷ [])

abbrev exp_0-records : List Record
exp_0-records =
    runs 3 (λ i. CommandDone 0 i ∷ []) ++
    runs 3 (λ i. PacketFinished (8000000 + i * 8000000) i 1 0 ∷
    PacketDelivered (8000001 + i * 8000000) i Plain ∷ []) ++
    (PacketFinished 32000000 3 1 0 ∷ PacketDropped 32000000 4 Plain Codel ∷
    PacketDelivered 32000001 3 Plain ∷ PacketFinished 40000000 5 1 0 ∷
    PacketDelivered 40000001 5 Plain ∷ PacketFinished 48000000 6 1 0 ∷
    PacketDelivered 48000001 6 Plain ∷ PacketFinished 56000000 7 1 0 ∷
    PacketDropped 56000000 8 Plain Codel ∷ PacketDelivered 56000001 7 Plain ∷
    PacketFinished 64000000 9 1 0 ∷ PacketDelivered 64000001 9 Plain ∷
    PacketFinished 72000000 10 1 0 ∷ PacketDropped 72000000 11 Plain Codel ∷
    PacketDelivered 72000001 10 Plain ∷ PacketFinished 80000000 12 1 0 ∷
    PacketDropped 80000000 13 Plain Codel ∷ PacketDelivered 80000001 12 Plain ∷
    PacketFinished 88000000 14 1 0 ∷ PacketDelivered 88000001 14 Plain ∷
    PacketFinished 96000000 15 1 0 ∷ PacketDelivered 96000001 15 Plain ∷ CommandDone 150000000 3 ∷
    []) ++
    runs 3 (λ i. PacketFinished (158000000 + i * 8000000) (16 + i) 1 0 ∷
    PacketDelivered (158000001 + i * 8000000) (16 + i) Plain ∷ []) ++
    (PacketFinished 182000000 19 1 0 ∷ PacketDropped 182000000 20 Plain Codel ∷
    PacketDelivered 182000001 19 Plain ∷ PacketFinished 190000000 21 1 0 ∷
    PacketDelivered 190000001 21 Plain ∷ PacketFinished 198000000 22 1 0 ∷
    PacketDropped 198000000 23 Plain Codel ∷ PacketDelivered 198000001 22 Plain ∷
    PacketFinished 206000000 24 1 0 ∷ PacketDropped 206000000 25 Plain Codel ∷
    PacketDelivered 206000001 24 Plain ∷ PacketFinished 214000000 26 1 0 ∷
    PacketDelivered 214000001 26 Plain ∷ PacketFinished 222000000 27 1 0 ∷
    PacketDelivered 222000001 27 Plain ∷ CommandDone 700000000 4 ∷ []) ++
    runs 3 (λ i. PacketFinished (708000000 + i * 8000000) (28 + i) 1 0 ∷
    PacketDelivered (708000001 + i * 8000000) (28 + i) Plain ∷ []) ++
    (PacketFinished 732000000 31 1 0 ∷ PacketDropped 732000000 32 Plain Codel ∷
    PacketDelivered 732000001 31 Plain ∷ PacketFinished 740000000 33 1 0 ∷
    PacketDelivered 740000001 33 Plain ∷ PacketFinished 748000000 34 1 0 ∷
    PacketDelivered 748000001 34 Plain ∷ PacketFinished 756000000 35 1 0 ∷
    PacketDropped 756000000 36 Plain Codel ∷ PacketDelivered 756000001 35 Plain ∷ []) ++
    runs 3 (λ i. PacketFinished (764000000 + i * 8000000) (37 + i) 1 0 ∷
    PacketDelivered (764000001 + i * 8000000) (37 + i) Plain ∷ []) ++
    (CommandDone 1000000000 5 ∷ [])

exp_0 :
    trace_of (alone (spec 0 64 1000000) exp_0-commands 108)
    ≡ record { records = exp_0-records; counters = counted 40 31 0 0 0 0 0 0 9 0 0 }
unfolding control_step
exp_0 = refl
