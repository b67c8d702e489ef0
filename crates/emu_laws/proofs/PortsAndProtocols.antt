-- PortsAndProtocols: the report of a scenario, computed by the definitions.
use Rattle.emu_laws.proofs.Words.{Add, Allow, AnyProtocol, CommandDone, Denied, Deny, End, Inject, List, None, OnlyTcp, OnlyUdp, PacketDelivered, PacketDropped, Plain, Record, RuleLine, Show, Tcp, Timed, Udp, [], address_span, alone, refl, trace_of, ◌++◌, ◌+◌, ◌∷◌, ◌≡◌}
use Rattle.emu_laws.proofs.Makings.{anywhere, at, counted, packet, ports, rule, rule_for_all, runs, spec}

-- experiment ports-and-protocols
abbrev exp_0-commands : List Timed
exp_0-commands =
    (at 0 (Add (rule_for_all 100 Deny OnlyTcp)) ∷
    at 0 (Add (rule 200 Allow OnlyUdp anywhere (ports 1000 1002) anywhere (ports 80 80))) ∷
    at 0 (Add (rule 300 Allow OnlyUdp (address_span 167772161 32) None (address_span 167772162 32) (ports 90 92))) ∷
    at 0 (Inject (packet Tcp 167772161 1000 167772162 80 40)) ∷
    at 1 (Inject (packet Udp 167772161 1000 167772162 80 40)) ∷
    at 2 (Inject (packet Udp 167772161 1002 167772162 80 40)) ∷
    at 3 (Inject (packet Udp 167772161 999 167772162 80 40)) ∷
    at 4 (Inject (packet Udp 167772161 1003 167772162 80 40)) ∷
    at 5 (Inject (packet Udp 167772161 80 167772162 1000 40)) ∷
    at 6 (Inject (packet Udp 167772161 1 167772162 90 40)) ∷
    at 7 (Inject (packet Udp 167772161 1 167772162 92 40)) ∷
    at 8 (Inject (packet Udp 167772161 1 167772162 89 40)) ∷
    at 9 (Inject (packet Udp 167772161 1 167772162 93 40)) ∷
    at 10 (Inject (packet Udp 167772162 1 167772161 90 40)) ∷ at 20 Show ∷ at 20 End ∷ [])

abbrev exp_0-records : List Record
exp_0-records =
    runs 4 (λ i. CommandDone 0 i ∷ []) ++
    (PacketDropped 0 0 Plain Denied ∷ CommandDone 1 4 ∷ CommandDone 2 5 ∷
    PacketDelivered 2 1 Plain ∷ CommandDone 3 6 ∷ PacketDropped 3 3 Plain Denied ∷
    PacketDelivered 3 2 Plain ∷ CommandDone 4 7 ∷ PacketDropped 4 4 Plain Denied ∷ CommandDone 5 8 ∷
    PacketDropped 5 5 Plain Denied ∷ CommandDone 6 9 ∷ CommandDone 7 10 ∷
    PacketDelivered 7 6 Plain ∷ CommandDone 8 11 ∷ PacketDropped 8 8 Plain Denied ∷
    PacketDelivered 8 7 Plain ∷ CommandDone 9 12 ∷ PacketDropped 9 9 Plain Denied ∷
    CommandDone 10 13 ∷ PacketDropped 10 10 Plain Denied ∷ CommandDone 20 14 ∷
    RuleLine (rule_for_all 100 Deny OnlyTcp) 1 40 ∷
    RuleLine (rule 200 Allow OnlyUdp anywhere (ports 1000 1002) anywhere (ports 80 80)) 2 80 ∷
    RuleLine (rule 300 Allow OnlyUdp (address_span 167772161 32) None (address_span 167772162 32) (ports 90 92)) 2 80 ∷
    RuleLine (rule_for_all 65535 Deny AnyProtocol) 6 240 ∷ CommandDone 20 15 ∷ [])

exp_0 :
    trace_of (alone (spec 0 64 1000000) exp_0-commands 31)
    ≡ record { records = exp_0-records; counters = counted 11 4 0 7 0 0 0 0 0 0 0 }
exp_0 = refl
