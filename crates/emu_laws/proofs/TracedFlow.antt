-- TracedFlow: the report of a scenario, computed by the definitions.
use Rattle.emu_laws.proofs.Words.{Ack, AckTaken, Add, Allow, ByReceiver, BySender, CommandDone, Config, End, Fixed, Flow, InstanceIdentified, List, None, OnlyTcp, PacketArrived, PacketDelivered, PacketFinished, PacketMade, Pipe, Record, Seg, Slots, TailDrop, Tcp, Timed, Trace, [], address_span, alone, refl, trace_of, true, ◌++◌, ◌+◌, ◌∷◌, ◌≡◌}
use Rattle.emu_laws.proofs.Makings.{at, counted, flow, pipe_with, rule, runs, spec, unmasked}

-- experiment traced-flow
abbrev exp_0-commands : List Timed
exp_0-commands =
    (at 0 (Trace true) ∷ at 0 (Config 1 (pipe_with 1000000 10 (Slots 50) 0 unmasked TailDrop)) ∷
    at 0 (Add (rule 100 (Pipe 1) OnlyTcp (address_span 167772161 32) None (address_span 167772162 32) None)) ∷
    at 0 (Add (rule 200 Allow OnlyTcp (address_span 167772162 32) None (address_span 167772161 32) None)) ∷
    at 0 (Flow 1 (flow 167772161 1000 167772162 80 960 1 65535 65535 (Fixed 1000))) ∷
    at 100000000 End ∷ [])

abbrev exp_0-records : List Record
exp_0-records =
    runs 5 (λ i. CommandDone 0 i ∷ []) ++
    (PacketMade 0 0 (BySender 1 0) Tcp 167772161 1000 167772162 80 1000 ∷
    InstanceIdentified 0 1 0 0 0 0 0 0 ∷ PacketArrived 0 0 1 0 ∷ PacketFinished 8000000 0 1 0 ∷
    PacketDelivered 18000000 0 (Seg 1 0) ∷
    PacketMade 18000000 1 (ByReceiver 1 960) Tcp 167772162 80 167772161 1000 40 ∷
    PacketDelivered 18000001 1 (Ack 1 960) ∷ AckTaken 18000001 1 4800 65535 ∷
    CommandDone 100000000 5 ∷ [])

exp_0 :
    trace_of (alone (spec 0 10 1000000) exp_0-commands 11)
    ≡ record { records = exp_0-records; counters = counted 2 2 0 0 0 0 0 0 0 0 0 }
exp_0 = refl
