-- Random07: the report of a scenario, computed by the definitions.
use Rattle.emu_laws.proofs.Words.{Add, AnyProtocol, CommandDone, CommandRefused, Config, ControlledDelay, Delete, Deny, End, Fixed, Flow, Full, Inject, InstanceLine, KBytes, List, NoRule, None, OnlyTcp, OnlyUdp, PacketDropped, Pipe, PipeDelete, PipeLine, PipeShow, Plain, Record, RuleLine, Seg, Show, Slots, TailDrop, Timed, TimerExpired, Train, Udp, [], address_span, alone, block_word, column_round, control_step, diagonal_round, double_rounds, quarter_round, refl, trace_of, true, u32_at, ◌*◌, ◌++◌, ◌+◌, ◌∷◌, ◌≡◌}
use Rattle.emu_laws.proofs.Makings.{anywhere, at, counted, flow, masked, packet, pipe_with, ports, rule, rule_for_all, runs, spec, train, unmasked}

-- experiment 0xx_18ay__ab99xax-_zb91_yy99cc8
abbrev exp_0-commands : List Timed
exp_0-commands =
    (at 0 (Config 65535 (pipe_with 268 0 (KBytes 156) 0 unmasked (ControlledDelay 1702000 1780000))) ∷
    at 0 (Config 1 (pipe_with 268 10 (Slots 1) 0 unmasked (ControlledDelay 11000000 25697000))) ∷
    at 0 (Config 255 (pipe_with 1000000 0 (Slots 50) 1 (masked 0 0 0 255 0) (ControlledDelay 1000000 1000000))) ∷
    at 0 (Config 3 (pipe_with 8000000 0 (Slots 50) 100000 unmasked (ControlledDelay 1000000 936000))) ∷
    at 0 (Config 2 (pipe_with 0 0 (Slots 9) 0 unmasked TailDrop)) ∷
    at 0 (Add (rule 200 Deny AnyProtocol (address_span 167772163 30) (ports 2000 2000) anywhere None)) ∷
    at 0 (Add (rule_for_all 200 (Pipe 65535) OnlyTcp)) ∷
    at 0 (Add (rule_for_all 65533 (Pipe 2) AnyProtocol)) ∷
    at 0 (Add (rule_for_all 150 (Pipe 1) AnyProtocol)) ∷
    at 0 (Config 65535 (pipe_with 8000000 0 (Slots 1) 0 unmasked TailDrop)) ∷ at 0 (Delete 50) ∷
    at 100000000 (Add (rule_for_all 300 Deny OnlyTcp)) ∷ at 700000000 PipeShow ∷
    at 2842508807 PipeShow ∷
    at 3152306248 (Config 65535 (pipe_with 10000000 0 (Slots 2) 1000000 unmasked (ControlledDelay 30327000000 1000000))) ∷
    at 3200000000 (Flow 3 (flow 46583161 65534 167772162 1001 1096 1 65535 4384 (Fixed 1000))) ∷
    at 3400000000 Show ∷
    at 3417182641 (Train 8 (train (packet Udp 167772162 80 167772417 2000 1000) 3 100000000)) ∷
    at 3700000000 (Flow 10 (flow 561482308 32768 167837698 1001 1096 1 65535 1 (Fixed 60000))) ∷
    at 3776620120 (Config 65535 (pipe_with 1000000 0 (Slots 11) 1000000 unmasked TailDrop)) ∷
    at 4972470491 (Inject (packet Udp 0 32768 0 1 1000)) ∷
    at 5196840518 (Add (rule_for_all 100 Deny OnlyUdp)) ∷ at 6000000000 (Delete 400) ∷
    at 6782353602 PipeShow ∷
    at 6900000000 (Flow 4 (flow 167772163 80 0 1000 1096 3 65535 65535 (Fixed 200))) ∷
    at 9100000000 (PipeDelete 65535) ∷
    at 9635407917 (Flow 11 (flow 167772161 80 167772162 65534 1095 9 1095 65535 (Fixed 50))) ∷
    at 10000000000 End ∷ [])

abbrev exp_0-records : List Record
exp_0-records =
    runs 10 (λ i. CommandDone 0 i ∷ []) ++
    (CommandRefused 0 10 NoRule ∷ CommandDone 100000000 11 ∷ CommandDone 700000000 12 ∷
    PipeLine 1 (pipe_with 268 10 (Slots 1) 0 unmasked (ControlledDelay 11000000 25697000)) ∷
    PipeLine 2 (pipe_with 0 0 (Slots 9) 0 unmasked TailDrop) ∷
    PipeLine 3 (pipe_with 8000000 0 (Slots 50) 100000 unmasked (ControlledDelay 1000000 936000)) ∷
    PipeLine 255 (pipe_with 1000000 0 (Slots 50) 1 (masked 0 0 0 255 0) (ControlledDelay 1000000 1000000)) ∷
    PipeLine 65535 (pipe_with 8000000 0 (Slots 1) 0 unmasked TailDrop) ∷ CommandDone 2842508807 13 ∷
    PipeLine 1 (pipe_with 268 10 (Slots 1) 0 unmasked (ControlledDelay 11000000 25697000)) ∷
    PipeLine 2 (pipe_with 0 0 (Slots 9) 0 unmasked TailDrop) ∷
    PipeLine 3 (pipe_with 8000000 0 (Slots 50) 100000 unmasked (ControlledDelay 1000000 936000)) ∷
    PipeLine 255 (pipe_with 1000000 0 (Slots 50) 1 (masked 0 0 0 255 0) (ControlledDelay 1000000 1000000)) ∷
    PipeLine 65535 (pipe_with 8000000 0 (Slots 1) 0 unmasked TailDrop) ∷ CommandDone 3152306248 14 ∷
    CommandDone 3200000000 15 ∷ CommandDone 3400000000 16 ∷
    RuleLine (rule_for_all 150 (Pipe 1) AnyProtocol) 1 1136 ∷
    RuleLine (rule 200 Deny AnyProtocol (address_span 167772160 30) (ports 2000 2000) anywhere None) 0 0 ∷
    RuleLine (rule_for_all 200 (Pipe 65535) OnlyTcp) 0 0 ∷
    RuleLine (rule_for_all 300 Deny OnlyTcp) 0 0 ∷
    RuleLine (rule_for_all 65533 (Pipe 2) AnyProtocol) 0 0 ∷
    RuleLine (rule_for_all 65535 Deny AnyProtocol) 0 0 ∷ CommandDone 3417182641 17 ∷
    PacketDropped 3517182641 2 Plain Full ∷ PacketDropped 3617182641 3 Plain Full ∷
    CommandDone 3700000000 18 ∷ CommandDone 3776620120 19 ∷ TimerExpired 4200000000 3 1096 2192 ∷
    PacketDropped 4200000000 4 (Seg 3 0) Full ∷ CommandDone 4972470491 20 ∷
    PacketDropped 4972470491 5 Plain Full ∷ CommandDone 5196840518 21 ∷
    CommandRefused 6000000000 22 NoRule ∷ TimerExpired 6200000000 3 1096 2192 ∷
    PacketDropped 6200000000 6 (Seg 3 0) Full ∷ CommandDone 6782353602 23 ∷
    PipeLine 1 (pipe_with 268 10 (Slots 1) 0 unmasked (ControlledDelay 11000000 25697000)) ∷
    InstanceLine 1 0 1 1000 true 0 7 ∷ PipeLine 2 (pipe_with 0 0 (Slots 9) 0 unmasked TailDrop) ∷
    PipeLine 3 (pipe_with 8000000 0 (Slots 50) 100000 unmasked (ControlledDelay 1000000 936000)) ∷
    PipeLine 255 (pipe_with 1000000 0 (Slots 50) 1 (masked 0 0 0 255 0) (ControlledDelay 1000000 1000000)) ∷
    PipeLine 65535 (pipe_with 1000000 0 (Slots 11) 1000000 unmasked TailDrop) ∷
    CommandDone 6900000000 24 ∷ []) ++
    runs 3 (λ i. PacketDropped 6900000000 (7 + i) (Seg 4 (i * 1096)) Full ∷ []) ++
    (TimerExpired 7100000000 4 1096 2192 ∷ PacketDropped 7100000000 10 (Seg 4 0) Full ∷
    TimerExpired 7500000000 4 1096 2192 ∷ PacketDropped 7500000000 11 (Seg 4 0) Full ∷
    TimerExpired 8300000000 4 1096 2192 ∷ PacketDropped 8300000000 12 (Seg 4 0) Full ∷
    CommandDone 9100000000 25 ∷ CommandDone 9635407917 26 ∷ []) ++
    runs 4 (λ i. PacketDropped 9635407917 (13 + i) (Seg 11 (i * 1095)) Full ∷ []) ++
    (TimerExpired 9685407917 11 1095 2190 ∷ PacketDropped 9685407917 17 (Seg 11 0) Full ∷
    TimerExpired 9785407917 11 1095 2190 ∷ PacketDropped 9785407917 18 (Seg 11 0) Full ∷
    TimerExpired 9900000000 4 1096 2192 ∷ PacketDropped 9900000000 19 (Seg 4 0) Full ∷
    TimerExpired 9985407917 11 1095 2190 ∷ PacketDropped 9985407917 20 (Seg 11 0) Full ∷
    CommandDone 10000000000 27 ∷ [])

exp_0 :
    trace_of (alone (spec 990 1371 1000000) exp_0-commands 58)
    ≡ record { records = exp_0-records; counters = counted 21 0 2 0 0 0 0 19 0 0 0 }
unfolding control_step block_word double_rounds column_round diagonal_round quarter_round u32_at
exp_0 = refl
