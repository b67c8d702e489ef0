-- CodelTwoDrops: the report of a scenario, computed by the definitions.
use Rattle.emu_laws.proofs.Words.{Add, AnyProtocol, Codel, CommandDone, Config, ControlledDelay, End, List, PacketDelivered, PacketDropped, PacketFinished, Pipe, Plain, Record, Slots, Timed, Train, Udp, [], alone, control_step, refl, trace_of, ◌*◌, ◌++◌, ◌+◌, ◌∷◌, ◌≡◌}
use Rattle.emu_laws.proofs.Makings.{at, counted, packet, pipe_with, rule_for_all, runs, spec, train, unmasked}

-- experiment codel-two-drops
abbrev exp_0-commands : List Timed
exp_0-commands =
    (at 0 (Config 1 (pipe_with 1000000 0 (Slots 50) 0 unmasked (ControlledDelay 5000000 100000000))) ∷
    at 0 (Add (rule_for_all 100 (Pipe 1) AnyProtocol)) ∷
    at 0 (Train 1 (train (packet Udp 167772161 1000 167772162 2000 1000) 40 0)) ∷ at 400000000 End ∷
    [])

abbrev exp_0-records : List Record
exp_0-records =
    runs 3 (λ i. CommandDone 0 i ∷ []) ++
    runs 13 (λ i. PacketFinished (8000000 + i * 8000000) i 1 0 ∷
    PacketDelivered (8000001 + i * 8000000) i Plain ∷ []) ++
    (PacketFinished 112000000 13 1 0 ∷ PacketDropped 112000000 14 Plain Codel ∷
    PacketDelivered 112000001 13 Plain ∷ []) ++
    runs 12 (λ i. PacketFinished (120000000 + i * 8000000) (15 + i) 1 0 ∷
    PacketDelivered (120000001 + i * 8000000) (15 + i) Plain ∷ []) ++
    (PacketFinished 216000000 27 1 0 ∷ PacketDropped 216000000 28 Plain Codel ∷
    PacketDelivered 216000001 27 Plain ∷ []) ++
    runs 11 (λ i. PacketFinished (224000000 + i * 8000000) (29 + i) 1 0 ∷
    PacketDelivered (224000001 + i * 8000000) (29 + i) Plain ∷ []) ++
    (CommandDone 400000000 3 ∷ [])

exp_0 :
    trace_of (alone (spec 0 64 1000000) exp_0-commands 120)
    ≡ record { records = exp_0-records; counters = counted 40 38 0 0 0 0 0 0 2 0 0 }
unfolding control_step
exp_0 = refl
