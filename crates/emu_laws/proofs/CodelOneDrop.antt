-- CodelOneDrop: the report of a scenario, computed by the definitions.
use Rattle.emu_laws.proofs.Words.{Add, AnyProtocol, Codel, CommandDone, Config, ControlledDelay, End, List, PacketDelivered, PacketDropped, PacketFinished, Pipe, Plain, Record, Slots, Timed, Train, Udp, [], alone, control_step, refl, trace_of, ◌*◌, ◌++◌, ◌+◌, ◌∷◌, ◌≡◌}
use Rattle.emu_laws.proofs.Makings.{at, counted, packet, pipe_with, rule_for_all, runs, spec, train, unmasked}

-- experiment codel-one-drop
abbrev exp_0-commands : List Timed
exp_0-commands =
    (at 0 (Config 1 (pipe_with 1000000 0 (Slots 50) 0 unmasked (ControlledDelay 5000000 100000000))) ∷
    at 0 (Add (rule_for_all 100 (Pipe 1) AnyProtocol)) ∷
    at 0 (Train 1 (train (packet Udp 167772161 1000 167772162 2000 1000) 30 0)) ∷ at 300000000 End ∷
    [])

abbrev exp_0-records : List Record
exp_0-records =
    runs 3 (λ i. CommandDone 0 i ∷ []) ++
    runs 13 (λ i. PacketFinished (8000000 + i * 8000000) i 1 0 ∷
    PacketDelivered (8000001 + i * 8000000) i Plain ∷ []) ++
    (PacketFinished 112000000 13 1 0 ∷ PacketDropped 112000000 14 Plain Codel ∷
    PacketDelivered 112000001 13 Plain ∷ []) ++
    runs 15 (λ i. PacketFinished (120000000 + i * 8000000) (15 + i) 1 0 ∷
    PacketDelivered (120000001 + i * 8000000) (15 + i) Plain ∷ []) ++
    (CommandDone 300000000 3 ∷ [])

exp_0 :
    trace_of (alone (spec 0 64 1000000) exp_0-commands 92)
    ≡ record { records = exp_0-records; counters = counted 30 29 0 0 0 0 0 0 1 0 0 }
unfolding control_step
exp_0 = refl
