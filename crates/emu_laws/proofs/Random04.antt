-- Random04: the report of a scenario, computed by the definitions.
use Rattle.emu_laws.proofs.Words.{Ack, Adaptive, Add, Allow, AnyProtocol, CommandDone, Config, Delete, Deny, End, Fixed, Flow, Inject, List, NoPipe, None, OnePass, OnlyTcp, PacketDelivered, PacketDropped, PacketFinished, PacketPassed, Pipe, PipeDelete, PipeLine, PipeShow, Plain, Record, Seg, Slots, Stop, TailDrop, Timed, Udp, [], address_span, alone, block_word, column_round, diagonal_round, double_rounds, false, quarter_round, refl, trace_of, u32_at, ◌++◌, ◌+◌, ◌∷◌, ◌≡◌}
use Rattle.emu_laws.proofs.Makings.{anywhere, at, counted, flow, masked, packet, pipe_with, rule, rule_for_all, runs, spec, unmasked}

-- experiment i
abbrev exp_0-commands : List Timed
exp_0-commands =
    (at 0 (Config 1 (pipe_with 10000000 100 (Slots 3) 50000 (masked 0 4294967295 0 0 65535) TailDrop)) ∷
    at 0 (Config 2 (pipe_with 0 0 (Slots 50) 50000 unmasked TailDrop)) ∷
    at 0 (Add (rule 100 (Pipe 1) OnlyTcp (address_span 167772161 32) None (address_span 167772162 32) None)) ∷
    at 0 (Add (rule 200 (Pipe 2) OnlyTcp (address_span 167772162 32) None (address_span 167772161 32) None)) ∷
    at 0 (Add (rule_for_all 300 Allow AnyProtocol)) ∷ at 0 (OnePass false) ∷
    at 0 (Flow 16 (flow 167772161 1016 167772162 80 536 2 1000000000 65535 (Fixed 1000))) ∷
    at 0 PipeShow ∷
    at 11 (Config 1 (pipe_with 10000000 500 (Slots 3) 0 (masked 0 4294967295 0 0 65535) TailDrop)) ∷
    at 12221794 (Stop 16) ∷
    at 12221795 (Config 1 (pipe_with 10000000 500 (Slots 3) 0 (masked 0 4294967295 0 0 65535) TailDrop)) ∷
    at 500460802 (Inject (packet Udp 167837698 80 0 53 1000)) ∷ at 500921599 (PipeDelete 2) ∷
    at 4315335322 (Config 1 (pipe_with 10000000 500 (Slots 3) 50000 (masked 0 4294967295 0 0 65535) TailDrop)) ∷
    at 13698693785 (Add (rule 50 Deny OnlyTcp (address_span 167772161 32) None anywhere None)) ∷
    at 13951560143 (Delete 50) ∷
    at 44927791920 (Flow 34 (flow 167772161 1034 167772162 80 1460 8 1403776 21 Adaptive)) ∷
    at 200000000000 End ∷ [])

abbrev exp_0-records : List Record
exp_0-records =
    runs 8 (λ i. CommandDone 0 i ∷ []) ++
    (PipeLine 1 (pipe_with 10000000 100 (Slots 3) 50000 (masked 0 4294967295 0 0 65535) TailDrop) ∷
    PipeLine 2 (pipe_with 0 0 (Slots 50) 50000 unmasked TailDrop) ∷ CommandDone 11 8 ∷
    PacketFinished 460800 0 1 0 ∷ PacketFinished 921600 1 1 0 ∷ CommandDone 12221794 9 ∷
    CommandDone 12221795 10 ∷ PacketPassed 500460800 0 1 0 ∷
    PacketDelivered 500460801 0 (Seg 16 0) ∷ PacketFinished 500460801 2 2 0 ∷
    CommandDone 500460802 11 ∷ PacketPassed 500460802 2 2 0 ∷ PacketDelivered 500460803 3 Plain ∷
    PacketDelivered 500460803 2 (Ack 16 536) ∷ CommandDone 500921599 12 ∷
    PacketPassed 500921600 1 1 0 ∷ PacketDelivered 500921601 1 (Seg 16 536) ∷
    PacketDropped 500921601 4 (Ack 16 1072) NoPipe ∷ CommandDone 4315335322 13 ∷
    CommandDone 13698693785 14 ∷ CommandDone 13951560143 15 ∷ CommandDone 44927791920 16 ∷
    CommandDone 200000000000 17 ∷ [])

exp_0 :
    trace_of (alone (spec 1 263 1000000) exp_0-commands 33)
    ≡ record { records = exp_0-records; counters = counted 5 4 0 0 1 0 0 0 0 0 0 }
unfolding block_word double_rounds column_round diagonal_round quarter_round u32_at
exp_0 = refl
