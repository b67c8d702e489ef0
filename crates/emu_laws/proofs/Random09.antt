-- Random09: the report of a scenario, computed by the definitions.
use Rattle.emu_laws.proofs.Words.{Add, Allow, AnyProtocol, CommandDone, Config, ControlledDelay, Delete, Denied, End, Inject, KBytes, List, NoPipe, None, OnePass, OnlyTcp, OnlyUdp, PacketDropped, Pipe, PipeDelete, PipeShow, Plain, Record, SkipTo, Slots, TailDrop, Tcp, Timed, Train, Udp, [], address_span, alone, block_word, column_round, control_step, diagonal_round, double_rounds, false, quarter_round, refl, trace_of, u32_at, ◌*◌, ◌++◌, ◌+◌, ◌∷◌, ◌≡◌}
use Rattle.emu_laws.proofs.Makings.{anywhere, at, counted, masked, packet, pipe_with, rule, rule_for_all, runs, spec, train, unmasked}

-- experiment 9bb0c
abbrev exp_0-commands : List Timed
exp_0-commands =
    (at 0 (Add (rule_for_all 50704 (Pipe 1) AnyProtocol)) ∷
    at 0 (Inject (packet Tcp 167772417 65535 167772417 0 1000)) ∷
    at 0 (Add (rule_for_all 200 (SkipTo 201) AnyProtocol)) ∷ at 0 PipeShow ∷
    at 0 (Inject (packet Udp 167772162 1000 167772417 65535 1500)) ∷
    at 1 (Inject (packet Udp 167772417 2000 167772417 0 500)) ∷
    at 1 (Inject (packet Udp 2147483649 2000 167772163 0 536)) ∷ at 1 (OnePass false) ∷
    at 2 (Inject (packet Udp 167772162 1000 167772161 0 1500)) ∷
    at 3 (Inject (packet Udp 167772163 32768 167772161 2000 1000)) ∷ at 8 PipeShow ∷ at 8 PipeShow ∷
    at 8 End ∷ [])

abbrev exp_0-records : List Record
exp_0-records =
    (CommandDone 0 0 ∷ CommandDone 0 1 ∷ PacketDropped 0 0 Plain NoPipe ∷ []) ++
    runs 3 (λ i. CommandDone 0 (2 + i) ∷ []) ++
    (PacketDropped 0 1 Plain NoPipe ∷ CommandDone 1 5 ∷ PacketDropped 1 2 Plain NoPipe ∷
    CommandDone 1 6 ∷ PacketDropped 1 3 Plain NoPipe ∷ CommandDone 1 7 ∷ CommandDone 2 8 ∷
    PacketDropped 2 4 Plain NoPipe ∷ CommandDone 3 9 ∷ PacketDropped 3 5 Plain NoPipe ∷ []) ++
    runs 3 (λ i. CommandDone 8 (10 + i) ∷ [])

exp_0 :
    trace_of (alone (spec 466 1000 483093) exp_0-commands 19)
    ≡ record { records = exp_0-records; counters = counted 6 0 0 0 6 0 0 0 0 0 0 }
exp_0 = refl

-- experiment y
abbrev exp_1-commands : List Timed
exp_1-commands =
    (at 0 (OnePass false) ∷
    at 0 (Config 1 (pipe_with 0 179 (KBytes 11) 0 unmasked (ControlledDelay 2000000 100000000))) ∷
    at 0 (Config 2 (pipe_with 0 10 (Slots 10) 0 (masked 0 255 0 0 0) (ControlledDelay 1000000 166095000))) ∷
    at 0 (Config 3 (pipe_with 8000000 0 (Slots 3) 455259 unmasked TailDrop)) ∷
    at 0 (Config 4 (pipe_with 8000000 0 (Slots 50) 1000 unmasked (ControlledDelay 769000 100000000))) ∷
    at 0 (Config 5 (pipe_with 100000000 0 (KBytes 11) 0 unmasked TailDrop)) ∷
    at 0 (Add (rule_for_all 100 (Pipe 1) AnyProtocol)) ∷
    at 0 (Add (rule_for_all 200 (Pipe 2) AnyProtocol)) ∷
    at 0 (Add (rule 300 (Pipe 3) OnlyUdp (address_span 167772163 32) None anywhere None)) ∷
    at 0 (Add (rule_for_all 400 (Pipe 12008) AnyProtocol)) ∷
    at 0 (Add (rule_for_all 500 (Pipe 9999) AnyProtocol)) ∷
    at 0 (Add (rule_for_all 100 (Pipe 2) AnyProtocol)) ∷
    at 0 (Add (rule_for_all 100 (Pipe 2) AnyProtocol)) ∷
    at 0 (Add (rule_for_all 65534 Allow AnyProtocol)) ∷ at 33000000 (Delete 100) ∷
    at 33000000 (Add (rule_for_all 100 (SkipTo 65535) AnyProtocol)) ∷ at 42000000 (Delete 400) ∷
    at 42000000 (Add (rule_for_all 400 (Pipe 2) AnyProtocol)) ∷
    at 235091744 (Config 2 (pipe_with 8000000 0 (Slots 7) 0 unmasked TailDrop)) ∷
    at 266700805 (Train 1 (train (packet Udp 167772162 1 167772161 1001 100) 24 500000)) ∷
    at 324044705 (Train 2 (train (packet Udp 167772417 2000 167772417 1000 500) 34 0)) ∷
    at 482946004 (Train 3 (train (packet Tcp 167772417 1000 2147483649 0 1000) 23 0)) ∷
    at 483000000 (Delete 500) ∷ at 491891741 (Delete 300) ∷ at 524245249 (Delete 400) ∷
    at 524245249 (Add (rule_for_all 400 (SkipTo 550) OnlyTcp)) ∷ at 900739165 (PipeDelete 3) ∷
    at 1000000000 End ∷ [])

abbrev exp_1-records : List Record
exp_1-records =
    runs 14 (λ i. CommandDone 0 i ∷ []) ++
    (CommandDone 33000000 14 ∷ CommandDone 33000000 15 ∷ CommandDone 42000000 16 ∷
    CommandDone 42000000 17 ∷ CommandDone 235091744 18 ∷ CommandDone 266700805 19 ∷ []) ++
    runs 24 (λ i. PacketDropped (266700805 + i * 500000) i Plain Denied ∷ []) ++
    (CommandDone 324044705 20 ∷ []) ++
    runs 34 (λ i. PacketDropped 324044705 (24 + i) Plain Denied ∷ []) ++
    (CommandDone 482946004 21 ∷ []) ++
    runs 23 (λ i. PacketDropped 482946004 (58 + i) Plain Denied ∷ []) ++
    (CommandDone 483000000 22 ∷ CommandDone 491891741 23 ∷ CommandDone 524245249 24 ∷
    CommandDone 524245249 25 ∷ CommandDone 900739165 26 ∷ CommandDone 1000000000 27 ∷ [])

exp_1 :
    trace_of (alone (spec 18446744073709551615 100 7146295) exp_1-commands 109)
    ≡ record { records = exp_1-records; counters = counted 81 0 0 81 0 0 0 0 0 0 0 }
unfolding control_step block_word double_rounds column_round diagonal_round quarter_round u32_at
exp_1 = refl
