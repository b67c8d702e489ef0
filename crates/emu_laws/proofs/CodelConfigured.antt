-- CodelConfigured: the report of a scenario, computed by the definitions.
use Rattle.emu_laws.proofs.Words.{Add, AnyProtocol, Codel, CommandDone, Config, ControlledDelay, End, List, PacketDelivered, PacketDropped, PacketFinished, Pipe, Plain, Record, Slots, TailDrop, Timed, Train, Udp, [], alone, control_step, refl, trace_of, ◌*◌, ◌++◌, ◌+◌, ◌∷◌, ◌≡◌}
use Rattle.emu_laws.proofs.Makings.{at, counted, packet, pipe_with, rule_for_all, runs, spec, train, unmasked}

-- experiment codel-configured
abbrev exp_0-commands : List Timed
exp_0-commands =
    (at 0 (Config 1 (pipe_with 1000000 0 (Slots 50) 0 unmasked (ControlledDelay 5000000 20000000))) ∷
    at 0 (Add (rule_for_all 100 (Pipe 1) AnyProtocol)) ∷
    at 0 (Train 1 (train (packet Udp 167772161 1000 167772162 2000 1000) 32 0)) ∷
    at 44000000 (Config 1 (pipe_with 1000000 1 (Slots 50) 0 unmasked (ControlledDelay 5000000 20000000))) ∷
    at 60000000 (Config 1 (pipe_with 1000000 0 (Slots 50) 0 unmasked (ControlledDelay 5000000 30000000))) ∷
    at 124000000 (Config 1 (pipe_with 1000000 0 (Slots 50) 0 unmasked (ControlledDelay 6000000 30000000))) ∷
    at 180000000 (Config 1 (pipe_with 1000000 0 (Slots 50) 0 unmasked TailDrop)) ∷
    at 188000000 (Config 1 (pipe_with 1000000 0 (Slots 50) 0 unmasked (ControlledDelay 6000000 30000000))) ∷
    at 300000000 End ∷ [])

abbrev exp_0-records : List Record
exp_0-records =
    runs 3 (λ i. CommandDone 0 i ∷ []) ++
    runs 3 (λ i. PacketFinished (8000000 + i * 8000000) i 1 0 ∷
    PacketDelivered (8000001 + i * 8000000) i Plain ∷ []) ++
    (PacketFinished 32000000 3 1 0 ∷ PacketDropped 32000000 4 Plain Codel ∷
    PacketDelivered 32000001 3 Plain ∷ PacketFinished 40000000 5 1 0 ∷
    PacketDelivered 40000001 5 Plain ∷ CommandDone 44000000 3 ∷ PacketFinished 48000000 6 1 0 ∷
    PacketDelivered 49000000 6 Plain ∷ PacketFinished 56000000 7 1 0 ∷
    PacketDropped 56000000 8 Plain Codel ∷ PacketDelivered 57000000 7 Plain ∷
    CommandDone 60000000 4 ∷ []) ++
    runs 4 (λ i. PacketFinished (64000000 + i * 8000000) (9 + i) 1 0 ∷
    PacketDelivered (64000001 + i * 8000000) (9 + i) Plain ∷ []) ++
    (PacketFinished 96000000 13 1 0 ∷ PacketDropped 96000000 14 Plain Codel ∷
    PacketDelivered 96000001 13 Plain ∷ []) ++
    runs 3 (λ i. PacketFinished (104000000 + i * 8000000) (15 + i) 1 0 ∷
    PacketDelivered (104000001 + i * 8000000) (15 + i) Plain ∷ []) ++
    (CommandDone 124000000 5 ∷ []) ++
    runs 4 (λ i. PacketFinished (128000000 + i * 8000000) (18 + i) 1 0 ∷
    PacketDelivered (128000001 + i * 8000000) (18 + i) Plain ∷ []) ++
    (PacketFinished 160000000 22 1 0 ∷ PacketDropped 160000000 23 Plain Codel ∷
    PacketDelivered 160000001 22 Plain ∷ PacketFinished 168000000 24 1 0 ∷
    PacketDelivered 168000001 24 Plain ∷ PacketFinished 176000000 25 1 0 ∷
    PacketDelivered 176000001 25 Plain ∷ CommandDone 180000000 6 ∷ PacketFinished 184000000 26 1 0 ∷
    PacketDelivered 184000001 26 Plain ∷ CommandDone 188000000 7 ∷ []) ++
    runs 5 (λ i. PacketFinished (192000000 + i * 8000000) (27 + i) 1 0 ∷
    PacketDelivered (192000001 + i * 8000000) (27 + i) Plain ∷ []) ++
    (CommandDone 300000000 8 ∷ [])

exp_0 :
    trace_of (alone (spec 0 64 1000000) exp_0-commands 97)
    ≡ record { records = exp_0-records; counters = counted 32 28 0 0 0 0 0 0 4 0 0 }
unfolding control_step
exp_0 = refl
