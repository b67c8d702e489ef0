-- The text of a report: a line for the experiment's name, one for each record, one for the counters (our choice). The
-- fields of a line are separated by one space, and a line ends with LF.
use Rattle.std.specs.Prelude.{ℕ, Bool, true, false, List, [], ◌∷◌, ◌++◌, if◌then◌else◌, codes, decimal, filter}
use Rattle.std.specs.List.{join_with_byte, flat_map}
use Rattle.emu_model.specs.declared.packets.Load.TheVariants.{Plain}
use Rattle.emu_model.specs.declared.records.Record.{Record}
use Rattle.emu_model.specs.declared.records.Record.TheVariants.{CommandDone, CommandRefused, PacketMade, PacketArrived, InstanceIdentified, PacketFinished, PacketDelivered, PacketPassed, PacketDropped, AckTaken, TimerExpired, StepsSpent, RuleLine, PipeLine, InstanceLine}
use Rattle.emu_model.specs.declared.records.Counters.{Counters}
use Rattle.emu_model.specs.Net.{load_by}
use Rattle.report.specs.Words.{places, instance_name, load_of, header_of, cause_of, code_of, action_of, protocol_of, end_of, queue_of, mask_of, discipline_of}

abbrev pub fields_of : Record → List (List ℕ)
fields_of (CommandDone moment command) = decimal moment ∷ codes "ok" ∷ decimal command ∷ []
fields_of (CommandRefused moment command refusal) =
    decimal moment ∷ codes "refused" ∷ decimal command ∷ decimal (code_of refusal) ∷ []
fields_of (PacketMade moment packet origin proto src sport dst dport size) =
    decimal moment
    ∷ codes "make"
    ∷ decimal packet
    ∷ load_of (load_by origin)
    ∷ header_of proto src sport dst dport size
    ∷ []
fields_of (PacketArrived moment packet pipe instance) =
    decimal moment ∷ codes "arrive" ∷ decimal packet ∷ instance_name pipe instance ∷ []
fields_of (InstanceIdentified moment pipe instance proto src dst sport dport) =
    decimal moment
    ∷ codes "identify"
    ∷ instance_name pipe instance
    ∷ mask_of (record { proto = proto; src = src; dst = dst; sport = sport; dport = dport })
    ∷ []
fields_of (PacketFinished moment packet pipe instance) =
    decimal moment ∷ codes "finish" ∷ decimal packet ∷ instance_name pipe instance ∷ []
fields_of (PacketDelivered moment packet load) =
    decimal moment ∷ codes "deliver" ∷ decimal packet ∷ load_of load ∷ []
fields_of (PacketPassed moment packet pipe instance) =
    decimal moment ∷ codes "pass" ∷ decimal packet ∷ instance_name pipe instance ∷ []
fields_of (PacketDropped moment packet load cause) =
    decimal moment ∷ codes "drop" ∷ decimal packet ∷ load_of load ∷ cause_of cause ∷ []
fields_of (AckTaken moment flow cwnd ssthresh) =
    decimal moment ∷ codes "ack" ∷ decimal flow ∷ decimal cwnd ∷ decimal ssthresh ∷ []
fields_of (TimerExpired moment flow cwnd ssthresh) =
    decimal moment ∷ codes "expire" ∷ decimal flow ∷ decimal cwnd ∷ decimal ssthresh ∷ []
fields_of (StepsSpent moment) = decimal moment ∷ codes "spent" ∷ []
fields_of (RuleLine rule packets bytes) =
    codes "rule"
    ∷ places 10 5 rule.number
    ∷ decimal packets
    ∷ decimal bytes
    ∷ action_of rule.action
    ∷ protocol_of rule.proto
    ∷ codes "from"
    ∷ end_of rule.src rule.sports
    ∷ codes "to"
    ∷ end_of rule.dst rule.dports
    ∷ []
fields_of (PipeLine pipe config) =
    codes "pipe"
    ∷ decimal pipe
    ∷ codes "bw"
    ∷ decimal config.bw
    ∷ codes "delay"
    ∷ decimal config.delay
    ∷ codes "queue"
    ∷ queue_of config.queue
    ∷ codes "plr"
    ∷ decimal config.plr
    ∷ codes "mask"
    ∷ mask_of config.mask
    ∷ discipline_of config.discipline
    ∷ []
fields_of (InstanceLine pipe instance waiting bytes busy in_flight drawn) =
    codes "instance"
    ∷ instance_name pipe instance
    ∷ codes "waiting"
    ∷ decimal waiting
    ∷ codes "bytes"
    ∷ decimal bytes
    ∷ codes "busy"
    ∷ decimal (if busy then 1 else 0)
    ∷ codes "flight"
    ∷ decimal in_flight
    ∷ codes "drawn"
    ∷ decimal drawn
    ∷ []

abbrev pub spaced : List (List ℕ) → List ℕ
spaced fields = join_with_byte 32 fields

abbrev pub line_of : Record → List ℕ
line_of line = spaced (fields_of line) ++ codes "\n"

abbrev pub heading_of : List ℕ → List ℕ
heading_of name = codes "experiment " ++ name ++ codes "\n"

abbrev pub behind_space : ℕ → List ℕ
behind_space n = codes " " ++ decimal n

-- the line of the counters: packets created, delivered and held, and the drops by cause
abbrev pub counters_of : Counters → List ℕ
counters_of counters =
    codes "counters"
    ++ flat_map behind_space (counters.made ∷ counters.delivered ∷ counters.held ∷ counters.drops)
    ++ codes "\n"

abbrev pub report_of : List ℕ → List Record → Counters → List ℕ
report_of name records counters =
    heading_of name ++ flat_map line_of records ++ counters_of counters

-- the common records: events of packets and senders, and commands that were executed; a drop only of a packet of no flow
abbrev pub is_common : Record → Bool
is_common (CommandDone moment command) = true
is_common (PacketArrived moment packet pipe instance) = true
is_common (PacketFinished moment packet pipe instance) = true
is_common (PacketDelivered moment packet load) = true
is_common (PacketPassed moment packet pipe instance) = true
is_common (PacketDropped moment packet Plain cause) = true
is_common (AckTaken moment flow cwnd ssthresh) = true
is_common (TimerExpired moment flow cwnd ssthresh) = true
is_common _ = false

abbrev pub is_rule_line : Record → Bool
is_rule_line (RuleLine rule packets bytes) = true
is_rule_line _ = false

abbrev pub is_pipe_line : Record → Bool
is_pipe_line (PipeLine pipe config) = true
is_pipe_line (InstanceLine pipe instance waiting bytes busy in_flight drawn) = true
is_pipe_line _ = false

-- the lines of the rules that were listed
abbrev pub rules_of : List Record → List ℕ
rules_of records = flat_map line_of (filter is_rule_line records)

-- the lines of the pipes and instances that were listed
abbrev pub pipes_of : List Record → List ℕ
pipes_of records = flat_map line_of (filter is_pipe_line records)
