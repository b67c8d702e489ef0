-- Random06: the report of a scenario, computed by the definitions.
use Rattle.emu_laws.proofs.Words.{Add, Allow, AnyProtocol, BadNumber, BadSkip, CommandDone, CommandRefused, Config, ControlledDelay, Count, Delete, Denied, Deny, End, Inject, List, None, OnlyTcp, PacketDelivered, PacketDropped, Pipe, Plain, Record, RuleLine, Show, SkipTo, Slots, TailDrop, Tcp, Timed, Udp, [], address_span, alone, block_word, column_round, control_step, diagonal_round, double_rounds, quarter_round, refl, trace_of, u32_at, ◌++◌, ◌+◌, ◌∷◌, ◌≡◌}
use Rattle.emu_laws.proofs.Makings.{anywhere, at, counted, packet, pipe_with, ports, rule, rule_for_all, runs, spec, unmasked}

-- experiment j
abbrev exp_0-commands : List Timed
exp_0-commands =
    (at 0 (Config 1 (pipe_with 10000000 0 (Slots 50) 0 unmasked (ControlledDelay 2000 1000000))) ∷
    at 0 (Config 2 (pipe_with 1000000000 10 (Slots 50) 600000 unmasked TailDrop)) ∷
    at 0 (Add (rule_for_all 100 Allow OnlyTcp)) ∷
    at 0 (Add (rule 400 (SkipTo 400) AnyProtocol anywhere None (address_span 167772161 23) None)) ∷
    at 0 (Add (rule 100 Allow AnyProtocol anywhere (ports 1001 1001) (address_span 167772417 30) None)) ∷
    at 0 (Add (rule 55048 Count AnyProtocol (address_span 167772162 31) None anywhere None)) ∷
    at 4756839 (Inject (packet Udp 167772163 2000 167772417 53 973)) ∷
    at 7038529 (Inject (packet Udp 167772417 1000 167772162 53 1165)) ∷ at 41540495 (Delete 99999) ∷
    at 43952366 (Add (rule_for_all 1000 Count AnyProtocol)) ∷
    at 54527358 (Inject (packet Tcp 167772162 53 167772161 65535 500)) ∷
    at 56155332 (Inject (packet Tcp 167772161 80 167772162 65535 235)) ∷
    at 65188224 (Inject (packet Udp 167772162 1 167772162 32768 100)) ∷
    at 71211434 (Add (rule_for_all 400 (Pipe 2) OnlyTcp)) ∷
    at 78570802 (Inject (packet Tcp 167772417 443 2147483646 2000 1000)) ∷
    at 91870408 (Inject (packet Udp 2147483646 65534 2147483649 443 615)) ∷ at 100000000 Show ∷
    at 110792209 End ∷ [])

abbrev exp_0-records : List Record
exp_0-records =
    runs 3 (λ i. CommandDone 0 i ∷ []) ++
    (CommandRefused 0 3 BadSkip ∷ CommandDone 0 4 ∷ CommandDone 0 5 ∷ CommandDone 4756839 6 ∷
    PacketDropped 4756839 0 Plain Denied ∷ CommandDone 7038529 7 ∷
    PacketDropped 7038529 1 Plain Denied ∷ CommandRefused 41540495 8 BadNumber ∷
    CommandDone 43952366 9 ∷ CommandDone 54527358 10 ∷ PacketDelivered 54527359 2 Plain ∷
    CommandDone 56155332 11 ∷ PacketDelivered 56155333 3 Plain ∷ CommandDone 65188224 12 ∷
    PacketDropped 65188224 4 Plain Denied ∷ CommandDone 71211434 13 ∷ CommandDone 78570802 14 ∷
    PacketDelivered 78570803 5 Plain ∷ CommandDone 91870408 15 ∷
    PacketDropped 91870408 6 Plain Denied ∷ CommandDone 100000000 16 ∷
    RuleLine (rule_for_all 100 Allow OnlyTcp) 3 1735 ∷
    RuleLine (rule 100 Allow AnyProtocol anywhere (ports 1001 1001) (address_span 167772416 30) None) 0 0 ∷
    RuleLine (rule_for_all 400 (Pipe 2) OnlyTcp) 0 0 ∷
    RuleLine (rule_for_all 1000 Count AnyProtocol) 2 715 ∷
    RuleLine (rule 55048 Count AnyProtocol (address_span 167772162 31) None anywhere None) 2 1073 ∷
    RuleLine (rule_for_all 65535 Deny AnyProtocol) 4 2853 ∷ CommandDone 110792209 17 ∷ [])

exp_0 :
    trace_of (alone (spec 417646630964329039 1000 6720855) exp_0-commands 28)
    ≡ record { records = exp_0-records; counters = counted 7 3 0 4 0 0 0 0 0 0 0 }
unfolding control_step block_word double_rounds column_round diagonal_round quarter_round u32_at
exp_0 = refl
