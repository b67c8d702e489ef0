-- Random05: the report of a scenario, computed by the definitions.
use Rattle.emu_laws.proofs.Words.{Ack, AckTaken, Add, Allow, AnyProtocol, CommandDone, Config, ControlledDelay, Count, Delete, Deny, End, Fixed, Flow, KBytes, List, None, OnePass, OnlyTcp, PacketDelivered, Pipe, PipeDelete, PipeLine, PipeShow, Plain, Record, RuleLine, Seg, Show, Slots, TailDrop, Tcp, Timed, Train, [], address_span, alone, block_word, column_round, control_step, diagonal_round, double_rounds, false, quarter_round, refl, trace_of, u32_at, ◌*◌, ◌++◌, ◌+◌, ◌∷◌, ◌≡◌}
use Rattle.emu_laws.proofs.Makings.{anywhere, at, counted, flow, masked, packet, pipe_with, ports, rule, rule_for_all, runs, spec, train, unmasked}

-- experiment t
abbrev exp_0-commands : List Timed
exp_0-commands =
    (at 0 (OnePass false) ∷
    at 0 (Config 1 (pipe_with 0 20 (KBytes 7) 50000 (masked 0 0 4294967295 0 65535) (ControlledDelay 5000000 1000000))) ∷
    at 0 (Config 2 (pipe_with 8000000 1 (KBytes 8) 0 unmasked (ControlledDelay 22903112000 58000))) ∷
    at 0 (Config 3 (pipe_with 0 5 (Slots 5) 0 unmasked (ControlledDelay 5000000 100000000))) ∷
    at 0 (Config 4 (pipe_with 0 1 (Slots 50) 1000000 unmasked TailDrop)) ∷
    at 0 (Config 5 (pipe_with 0 0 (Slots 182) 0 unmasked (ControlledDelay 1000000 1000000))) ∷
    at 0 (Add (rule_for_all 65533 (Pipe 1) AnyProtocol)) ∷
    at 0 (Add (rule_for_all 200 (Pipe 2) OnlyTcp)) ∷ []) ++
    runs 3 (λ i. at 0 (Add (rule_for_all (300 + i * 100) (Pipe (3 + i)) AnyProtocol)) ∷ []) ++
    (at 0 (Add (rule_for_all 250 Deny AnyProtocol)) ∷ at 0 (Add (rule_for_all 1 Allow OnlyTcp)) ∷
    at 0 (Add (rule 65534 Count AnyProtocol (address_span 167772417 16) (ports 32160 32160) anywhere None)) ∷
    at 0 (Add (rule_for_all 60000 Allow AnyProtocol)) ∷
    at 0 (Add (rule 200 Count AnyProtocol (address_span 167772163 29) None anywhere None)) ∷
    at 1263976 (Flow 30 (flow 167772161 1000 167772162 80 1096 24 1 65535 (Fixed 1000))) ∷
    at 1263977 PipeShow ∷ at 1263981 (Add (rule_for_all 50 (Pipe 4) AnyProtocol)) ∷
    at 1263987 (Config 5 (pipe_with 0 0 (Slots 182) 0 unmasked (ControlledDelay 1000000 1000000))) ∷
    at 1428403 Show ∷
    at 1857603 (Train 1 (train (packet Tcp 167772163 80 167772417 1001 1500) 1 1000000)) ∷
    at 3000000 (Delete 200) ∷
    at 3000000 (Add (rule 200 Count AnyProtocol anywhere None (address_span 167772162 30) (ports 2000 2000))) ∷
    at 3000000 (Train 2 (train (packet Tcp 167772163 443 167772162 53 40) 3 1000000)) ∷
    at 3000000 (Add (rule 65534 (Pipe 2) AnyProtocol anywhere (ports 65534 65534) (address_span 167772417 30) (ports 1000 1000))) ∷
    at 3000000 (PipeDelete 3) ∷ at 3000000 End ∷ [])

abbrev exp_0-records : List Record
exp_0-records =
    runs 16 (λ i. CommandDone 0 i ∷ []) ++
    (CommandDone 1263976 16 ∷ CommandDone 1263977 17 ∷
    PipeLine 1 (pipe_with 0 20 (KBytes 7) 50000 (masked 0 0 4294967295 0 65535) (ControlledDelay 5000000 1000000)) ∷
    PipeLine 2 (pipe_with 8000000 1 (KBytes 8) 0 unmasked (ControlledDelay 22903112000 58000)) ∷
    PipeLine 3 (pipe_with 0 5 (Slots 5) 0 unmasked (ControlledDelay 5000000 100000000)) ∷
    PipeLine 4 (pipe_with 0 1 (Slots 50) 1000000 unmasked TailDrop) ∷
    PipeLine 5 (pipe_with 0 0 (Slots 182) 0 unmasked (ControlledDelay 1000000 1000000)) ∷ []) ++
    runs 3 (λ i. PacketDelivered 1263977 i (Seg 30 (i * 1096)) ∷ []) ++
    (PacketDelivered 1263978 3 (Ack 30 1096) ∷ AckTaken 1263978 30 3653 1 ∷
    PacketDelivered 1263978 4 (Ack 30 2192) ∷ AckTaken 1263978 30 3981 1 ∷
    PacketDelivered 1263978 5 (Ack 30 3288) ∷ AckTaken 1263978 30 4282 1 ∷ []) ++
    runs 3 (λ i. PacketDelivered 1263979 (6 + i) (Seg 30 (3288 + i * 1096)) ∷ []) ++
    (PacketDelivered 1263980 9 (Ack 30 4384) ∷ AckTaken 1263980 30 4562 1 ∷
    PacketDelivered 1263980 10 (Ack 30 5480) ∷ AckTaken 1263980 30 4825 1 ∷
    PacketDelivered 1263980 11 (Ack 30 6576) ∷ AckTaken 1263980 30 5073 1 ∷ CommandDone 1263981 18 ∷
    []) ++
    runs 4 (λ i. PacketDelivered 1263981 (12 + i) (Seg 30 (6576 + i * 1096)) ∷ []) ++
    (PacketDelivered 1263982 16 (Ack 30 7672) ∷ AckTaken 1263982 30 5309 1 ∷
    PacketDelivered 1263982 17 (Ack 30 8768) ∷ AckTaken 1263982 30 5535 1 ∷
    PacketDelivered 1263982 18 (Ack 30 9864) ∷ AckTaken 1263982 30 5752 1 ∷
    PacketDelivered 1263982 19 (Ack 30 10960) ∷ AckTaken 1263982 30 5960 1 ∷ []) ++
    runs 5 (λ i. PacketDelivered 1263983 (20 + i) (Seg 30 (10960 + i * 1096)) ∷ []) ++
    (PacketDelivered 1263984 25 (Ack 30 12056) ∷ AckTaken 1263984 30 6161 1 ∷
    PacketDelivered 1263984 26 (Ack 30 13152) ∷ AckTaken 1263984 30 6355 1 ∷
    PacketDelivered 1263984 27 (Ack 30 14248) ∷ AckTaken 1263984 30 6544 1 ∷
    PacketDelivered 1263984 28 (Ack 30 15344) ∷ AckTaken 1263984 30 6727 1 ∷
    PacketDelivered 1263984 29 (Ack 30 16440) ∷ AckTaken 1263984 30 6905 1 ∷ []) ++
    runs 6 (λ i. PacketDelivered 1263985 (30 + i) (Seg 30 (16440 + i * 1096)) ∷ []) ++
    (PacketDelivered 1263986 36 (Ack 30 17536) ∷ AckTaken 1263986 30 7078 1 ∷
    PacketDelivered 1263986 37 (Ack 30 18632) ∷ AckTaken 1263986 30 7247 1 ∷
    PacketDelivered 1263986 38 (Ack 30 19728) ∷ AckTaken 1263986 30 7412 1 ∷
    PacketDelivered 1263986 39 (Ack 30 20824) ∷ AckTaken 1263986 30 7574 1 ∷
    PacketDelivered 1263986 40 (Ack 30 21920) ∷ AckTaken 1263986 30 7732 1 ∷
    PacketDelivered 1263986 41 (Ack 30 23016) ∷ AckTaken 1263986 30 7887 1 ∷
    CommandDone 1263987 19 ∷ []) ++
    runs 3 (λ i. PacketDelivered 1263987 (42 + i) (Seg 30 (23016 + i * 1096)) ∷ []) ++
    (PacketDelivered 1263988 45 (Ack 30 24112) ∷ AckTaken 1263988 30 8039 1 ∷
    PacketDelivered 1263988 46 (Ack 30 25208) ∷ AckTaken 1263988 30 8188 1 ∷
    PacketDelivered 1263988 47 (Ack 30 26304) ∷ AckTaken 1263988 30 8334 1 ∷
    CommandDone 1428403 20 ∷ RuleLine (rule_for_all 1 Allow OnlyTcp) 48 28224 ∷
    RuleLine (rule_for_all 50 (Pipe 4) AnyProtocol) 0 0 ∷
    RuleLine (rule_for_all 200 (Pipe 2) OnlyTcp) 0 0 ∷
    RuleLine (rule 200 Count AnyProtocol (address_span 167772160 29) None anywhere None) 0 0 ∷
    RuleLine (rule_for_all 250 Deny AnyProtocol) 0 0 ∷ []) ++
    runs 3 (λ i. RuleLine (rule_for_all (300 + i * 100) (Pipe (3 + i)) AnyProtocol) 0 0 ∷ []) ++
    (RuleLine (rule_for_all 60000 Allow AnyProtocol) 0 0 ∷
    RuleLine (rule_for_all 65533 (Pipe 1) AnyProtocol) 0 0 ∷
    RuleLine (rule 65534 Count AnyProtocol (address_span 167772160 16) (ports 32160 32160) anywhere None) 0 0 ∷
    RuleLine (rule_for_all 65535 Deny AnyProtocol) 0 0 ∷ CommandDone 1857603 21 ∷
    PacketDelivered 1857604 48 Plain ∷ []) ++
    runs 6 (λ i. CommandDone 3000000 (22 + i) ∷ [])

exp_0 :
    trace_of (alone (spec 16771155658654877011 1000 1000000) exp_0-commands 126)
    ≡ record { records = exp_0-records; counters = counted 49 49 0 0 0 0 0 0 0 0 0 }
unfolding control_step block_word double_rounds column_round diagonal_round quarter_round u32_at
exp_0 = refl
