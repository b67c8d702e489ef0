-- MaskFixed: the report of a scenario, computed by the definitions.
use Rattle.emu_laws.proofs.Words.{Add, AnyProtocol, CommandDone, CommandRefused, Config, End, Inject, List, MaskFixed, PacketDelivered, PacketFinished, Pipe, Plain, Record, Slots, TailDrop, Timed, Udp, [], alone, refl, trace_of, ◌++◌, ◌+◌, ◌∷◌, ◌≡◌}
use Rattle.emu_laws.proofs.Makings.{at, counted, masked, packet, pipe_with, rule_for_all, runs, spec, unmasked}

-- experiment mask-fixed
abbrev exp_0-commands : List Timed
exp_0-commands =
    (at 0 (Config 1 (pipe_with 1000000 0 (Slots 50) 0 (masked 0 0 4294967295 0 0) TailDrop)) ∷
    at 0 (Add (rule_for_all 100 (Pipe 1) AnyProtocol)) ∷
    at 0 (Inject (packet Udp 167772161 1000 167772162 2000 1000)) ∷
    at 0 (Inject (packet Udp 167772161 1000 167772163 2000 1000)) ∷
    at 0 (Inject (packet Udp 167772161 1000 167772162 2000 1000)) ∷
    at 17000000 (Config 1 (pipe_with 1000000 0 (Slots 50) 0 unmasked TailDrop)) ∷ at 20000000 End ∷
    [])

abbrev exp_0-records : List Record
exp_0-records =
    runs 5 (λ i. CommandDone 0 i ∷ []) ++
    (PacketFinished 8000000 0 1 0 ∷ PacketFinished 8000000 1 1 1 ∷ PacketDelivered 8000001 0 Plain ∷
    PacketDelivered 8000001 1 Plain ∷ PacketFinished 16000000 2 1 0 ∷
    PacketDelivered 16000001 2 Plain ∷ CommandRefused 17000000 5 MaskFixed ∷
    CommandDone 20000000 6 ∷ [])

exp_0 :
    trace_of (alone (spec 0 1000 1000000) exp_0-commands 16)
    ≡ record { records = exp_0-records; counters = counted 3 3 0 0 0 0 0 0 0 0 0 }
exp_0 = refl
