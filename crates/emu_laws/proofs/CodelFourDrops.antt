-- CodelFourDrops: the report of a scenario, computed by the definitions.
use Rattle.emu_laws.proofs.Words.{Add, AnyProtocol, Codel, CommandDone, Config, ControlledDelay, End, List, PacketDelivered, PacketDropped, PacketFinished, Pipe, Plain, Record, Slots, Timed, Train, Udp, [], alone, control_step, refl, trace_of, ◌*◌, ◌++◌, ◌+◌, ◌∷◌, ◌≡◌}
use Rattle.emu_laws.proofs.Makings.{at, counted, packet, pipe_with, rule_for_all, runs, spec, train, unmasked}

-- experiment codel-four-drops
abbrev exp_0-commands : List Timed
exp_0-commands =
    (at 0 (Config 1 (pipe_with 1000000 0 (Slots 50) 0 unmasked (ControlledDelay 5000000 20000000))) ∷
    at 0 (Add (rule_for_all 100 (Pipe 1) AnyProtocol)) ∷
    at 0 (Train 1 (train (packet Udp 167772161 1000 167772162 2000 1000) 16 0)) ∷ at 200000000 End ∷
    [])

abbrev exp_0-records : List Record
exp_0-records =
    runs 3 (λ i. CommandDone 0 i ∷ []) ++
    runs 3 (λ i. PacketFinished (8000000 + i * 8000000) i 1 0 ∷
    PacketDelivered (8000001 + i * 8000000) i Plain ∷ []) ++
    (PacketFinished 32000000 3 1 0 ∷ PacketDropped 32000000 4 Plain Codel ∷
    PacketDelivered 32000001 3 Plain ∷ PacketFinished 40000000 5 1 0 ∷
    PacketDelivered 40000001 5 Plain ∷ PacketFinished 48000000 6 1 0 ∷
    PacketDelivered 48000001 6 Plain ∷ PacketFinished 56000000 7 1 0 ∷
    PacketDropped 56000000 8 Plain Codel ∷ PacketDelivered 56000001 7 Plain ∷
    PacketFinished 64000000 9 1 0 ∷ PacketDelivered 64000001 9 Plain ∷
    PacketFinished 72000000 10 1 0 ∷ PacketDropped 72000000 11 Plain Codel ∷
    PacketDelivered 72000001 10 Plain ∷ PacketFinished 80000000 12 1 0 ∷
    PacketDropped 80000000 13 Plain Codel ∷ PacketDelivered 80000001 12 Plain ∷
    PacketFinished 88000000 14 1 0 ∷ PacketDelivered 88000001 14 Plain ∷
    PacketFinished 96000000 15 1 0 ∷ PacketDelivered 96000001 15 Plain ∷ CommandDone 200000000 3 ∷
    [])

exp_0 :
    trace_of (alone (spec 0 64 1000000) exp_0-commands 44)
    ≡ record { records = exp_0-records; counters = counted 16 12 0 0 0 0 0 0 4 0 0 }
unfolding control_step
exp_0 = refl
