-- Random02: the report of a scenario, computed by the definitions.
use Rattle.emu_laws.proofs.Words.{Ack, AckTaken, Add, AnyProtocol, CommandDone, Config, ControlledDelay, Delete, Deny, End, Fixed, Flow, List, None, OnlyTcp, PacketDelivered, PacketFinished, Pipe, Record, RuleLine, Seg, Show, Slots, Stop, TailDrop, Timed, [], address_span, alone, block_word, column_round, control_step, diagonal_round, double_rounds, quarter_round, refl, trace_of, u32_at, ◌*◌, ◌++◌, ◌+◌, ◌∷◌, ◌≡◌}
use Rattle.emu_laws.proofs.Makings.{anywhere, at, counted, flow, pipe_with, rule, rule_for_all, runs, spec, unmasked}

-- experiment zxyx_c1xxyccz8xy1z0_999c9b9191y1
abbrev exp_0-commands : List Timed
exp_0-commands =
    (at 0 (Config 1 (pipe_with 0 400 (Slots 50) 0 unmasked TailDrop)) ∷
    at 0 (Config 2 (pipe_with 0 400 (Slots 50) 0 unmasked TailDrop)) ∷
    at 0 (Add (rule 100 (Pipe 1) OnlyTcp (address_span 167772161 32) None (address_span 167772162 32) None)) ∷
    at 0 (Add (rule 200 (Pipe 2) OnlyTcp (address_span 167772162 32) None (address_span 167772161 32) None)) ∷
    at 0 (Flow 1 (flow 167772161 1001 167772162 80 1000 75 1000 65535 (Fixed 3000))) ∷
    at 799000000 (Config 2 (pipe_with 0 800 (Slots 50) 0 unmasked TailDrop)) ∷
    at 3600000000 (Stop 1) ∷ at 6800000001 Show ∷
    at 7999000000 (Config 2 (pipe_with 0 800 (Slots 50) 0 unmasked TailDrop)) ∷
    at 9601000000 (Add (rule 50 Deny OnlyTcp (address_span 167772161 32) None anywhere None)) ∷
    at 9611000000 (Delete 50) ∷
    at 11599999999 (Config 1 (pipe_with 100000000 0 (Slots 10) 600000 unmasked (ControlledDelay 2177000000 3328000000))) ∷
    at 16000000000 End ∷ [])

abbrev exp_0-records : List Record
exp_0-records =
    runs 5 (λ i. CommandDone 0 i ∷ []) ++
    runs 4 (λ i. PacketFinished 0 i 1 0 ∷ []) ++
    runs 4 (λ i. PacketDelivered 400000000 i (Seg 1 (i * 1000)) ∷ []) ++
    runs 4 (λ i. PacketFinished 400000000 (4 + i) 2 0 ∷ []) ++
    (CommandDone 799000000 5 ∷ PacketDelivered 800000000 4 (Ack 1 1000) ∷
    AckTaken 800000000 1 4250 1000 ∷ PacketDelivered 800000000 5 (Ack 1 2000) ∷
    AckTaken 800000000 1 4485 1000 ∷ PacketDelivered 800000000 6 (Ack 1 3000) ∷
    AckTaken 800000000 1 4707 1000 ∷ PacketDelivered 800000000 7 (Ack 1 4000) ∷
    AckTaken 800000000 1 4919 1000 ∷ []) ++
    runs 4 (λ i. PacketFinished 800000000 (8 + i) 1 0 ∷ []) ++
    runs 4 (λ i. PacketDelivered 1200000000 (8 + i) (Seg 1 (4000 + i * 1000)) ∷ []) ++
    runs 4 (λ i. PacketFinished 1200000000 (12 + i) 2 0 ∷ []) ++
    (PacketDelivered 2000000000 12 (Ack 1 5000) ∷ AckTaken 2000000000 1 5122 1000 ∷
    PacketDelivered 2000000000 13 (Ack 1 6000) ∷ AckTaken 2000000000 1 5317 1000 ∷
    PacketDelivered 2000000000 14 (Ack 1 7000) ∷ AckTaken 2000000000 1 5505 1000 ∷
    PacketDelivered 2000000000 15 (Ack 1 8000) ∷ AckTaken 2000000000 1 5686 1000 ∷ []) ++
    runs 5 (λ i. PacketFinished 2000000000 (16 + i) 1 0 ∷ []) ++
    runs 5 (λ i. PacketDelivered 2400000000 (16 + i) (Seg 1 (8000 + i * 1000)) ∷ []) ++
    runs 5 (λ i. PacketFinished 2400000000 (21 + i) 2 0 ∷ []) ++
    (PacketDelivered 3200000000 21 (Ack 1 9000) ∷ AckTaken 3200000000 1 5861 1000 ∷
    PacketDelivered 3200000000 22 (Ack 1 10000) ∷ AckTaken 3200000000 1 6031 1000 ∷
    PacketDelivered 3200000000 23 (Ack 1 11000) ∷ AckTaken 3200000000 1 6196 1000 ∷
    PacketDelivered 3200000000 24 (Ack 1 12000) ∷ AckTaken 3200000000 1 6357 1000 ∷
    PacketDelivered 3200000000 25 (Ack 1 13000) ∷ AckTaken 3200000000 1 6514 1000 ∷ []) ++
    runs 6 (λ i. PacketFinished 3200000000 (26 + i) 1 0 ∷ []) ++
    (CommandDone 3600000000 6 ∷ []) ++
    runs 6 (λ i. PacketDelivered 3600000000 (26 + i) (Seg 1 (13000 + i * 1000)) ∷ []) ++
    runs 6 (λ i. PacketFinished 3600000000 (32 + i) 2 0 ∷ []) ++
    runs 6 (λ i. PacketDelivered 4400000000 (32 + i) (Ack 1 (14000 + i * 1000)) ∷ []) ++
    (CommandDone 6800000001 7 ∷
    RuleLine (rule 100 (Pipe 1) OnlyTcp (address_span 167772161 32) None (address_span 167772162 32) None) 19 19760 ∷
    RuleLine (rule 200 (Pipe 2) OnlyTcp (address_span 167772162 32) None (address_span 167772161 32) None) 19 760 ∷
    RuleLine (rule_for_all 65535 Deny AnyProtocol) 0 0 ∷ CommandDone 7999000000 8 ∷
    CommandDone 9601000000 9 ∷ CommandDone 9611000000 10 ∷ CommandDone 11599999999 11 ∷
    CommandDone 16000000000 12 ∷ [])

exp_0 :
    trace_of (alone (spec 0 100 1000000) exp_0-commands 127)
    ≡ record { records = exp_0-records; counters = counted 38 38 0 0 0 0 0 0 0 0 0 }
unfolding control_step block_word double_rounds column_round diagonal_round quarter_round u32_at
exp_0 = refl
