-- The rows of a report: its records as numbers in columns of fixed width, little-endian, behind a header of NumPy's format
-- .npy 1.0 that names the columns (our choice). docs/reference/rows.md says what each column means for each kind.
use Rattle.std.specs.Prelude.{ℕ, ◌+◌, ◌-◌, ◌*◌, ◌^◌, min, if◌then◌else◌, List, [], ◌∷◌, ◌++◌, codes, decimal, length, replicate, take}
use Rattle.std.specs.Int.{w64, to_le_bytes}
use Rattle.std.specs.List.{flat_map}
use Rattle.emu_model.specs.declared.packets.Protocol.{Protocol}
use Rattle.emu_model.specs.declared.packets.Protocol.TheVariants.{Tcp, Udp}
use Rattle.emu_model.specs.declared.packets.Load.{Load}
use Rattle.emu_model.specs.declared.packets.Load.TheVariants.{Plain, Seg, Ack}
use Rattle.emu_model.specs.declared.packets.Origin.{Origin}
use Rattle.emu_model.specs.declared.packets.Origin.TheVariants.{ByCommand, ByTrain, BySender, ByReceiver}
use Rattle.emu_model.specs.declared.records.DropCause.{DropCause}
use Rattle.emu_model.specs.declared.records.DropCause.TheVariants.{Denied, NoPipe, NoInstance, Lost, Full, Codel, Deleted, Budget}
use Rattle.emu_model.specs.declared.records.Record.{Record}
use Rattle.emu_model.specs.declared.records.Record.TheVariants.{CommandDone, CommandRefused, PacketMade, PacketArrived, InstanceIdentified, PacketFinished, PacketDelivered, PacketPassed, PacketDropped, AckTaken, TimerExpired, StepsSpent, RuleLine, PipeLine, InstanceLine}
use Rattle.emu_model.specs.declared.records.Counters.{Counters}
use Rattle.report.specs.Words.{code_of}
use Rattle.report.specs.declared.rows.Row.{Row}

-- a number in a column of `bits` bits: the largest of them if it doesn't fit
abbrev pub fitted : ℕ → ℕ → ℕ
fitted bits n = min n (2 ^ bits - 1)

-- a row with nothing but a kind and a time (ns)
abbrev pub row_at : ℕ → ℕ → Row
row_at kind moment = record {
  moment = fitted 63 moment;
  packet = 0;
  source = 0;
  number = 0;
  more = 0;
  src = 0;
  dst = 0;
  size = 0;
  pipe = 0;
  kind = kind;
  instance = 0;
  code = 0;
}

-- the row of what happened to a command
abbrev pub command_row : ℕ → ℕ → ℕ → Row
command_row kind moment command = record (row_at kind moment) { source = fitted 32 command }

-- the row of a packet at an instance
abbrev pub instance_row : ℕ → ℕ → ℕ → ℕ → ℕ → Row
instance_row kind moment packet pipe instance =
    record (row_at kind moment) { packet = fitted 32 packet; pipe = pipe; instance = instance }

-- the row of a packet by its load: its kind is the first of three, which are for plain packets, segments and acknowledgements
abbrev pub load_row : ℕ → ℕ → ℕ → Load → Row
load_row first moment packet Plain = record (row_at first moment) { packet = fitted 32 packet }
load_row first moment packet (Seg flow byte) =
    record (row_at (first + 1) moment) { packet = fitted 32 packet; source = flow; number = fitted 32 byte }
load_row first moment packet (Ack flow upto) =
    record (row_at (first + 2) moment) { packet = fitted 32 packet; source = flow; number = fitted 32 upto }

-- the row of a packet's creation: its kind tells a command, a train, a sender and a receiver apart
abbrev pub origin_row : ℕ → ℕ → Origin → Row
origin_row moment packet (ByCommand command) =
    record (row_at 2 moment) { packet = fitted 32 packet; source = fitted 32 command }
origin_row moment packet (ByTrain train) =
    record (row_at 3 moment) { packet = fitted 32 packet; source = train }
origin_row moment packet (BySender flow byte) =
    record (row_at 4 moment) { packet = fitted 32 packet; source = flow; number = fitted 32 byte }
origin_row moment packet (ByReceiver flow upto) =
    record (row_at 5 moment) { packet = fitted 32 packet; source = flow; number = fitted 32 upto }

-- the row of a sender's window (bytes)
abbrev pub window_row : ℕ → ℕ → ℕ → ℕ → ℕ → Row
window_row kind moment flow cwnd ssthresh =
    record (row_at kind moment) { source = flow; number = fitted 32 cwnd; more = fitted 32 ssthresh }

-- two ports in one column
abbrev pub ports_in_one : ℕ → ℕ → ℕ
ports_in_one sport dport = sport + dport * 2 ^ 16

-- IP's number of a protocol
abbrev pub ip_number : Protocol → ℕ
ip_number Tcp = 6
ip_number Udp = 17

abbrev pub cause_number : DropCause → ℕ
cause_number Denied = 1
cause_number NoPipe = 2
cause_number NoInstance = 3
cause_number Lost = 4
cause_number Full = 5
cause_number Codel = 6
cause_number Deleted = 7
cause_number Budget = 8

abbrev pub row_of : Record → Row
row_of (CommandDone moment command) = command_row 0 moment command
row_of (CommandRefused moment command refusal) = record (command_row 1 moment command) { code = code_of refusal }
row_of (PacketMade moment packet origin proto src sport dst dport size) = record (origin_row moment packet origin) {
  more = ports_in_one sport dport;
  src = src;
  dst = dst;
  size = size;
  code = ip_number proto;
}
row_of (PacketArrived moment packet pipe instance) = instance_row 7 moment packet pipe instance
row_of (InstanceIdentified moment pipe instance proto src dst sport dport) = record (row_at 6 moment) {
  more = ports_in_one sport dport;
  src = src;
  dst = dst;
  pipe = pipe;
  instance = instance;
  code = proto;
}
row_of (PacketFinished moment packet pipe instance) = instance_row 8 moment packet pipe instance
row_of (PacketPassed moment packet pipe instance) = instance_row 9 moment packet pipe instance
row_of (PacketDelivered moment packet load) = load_row 10 moment packet load
row_of (PacketDropped moment packet load cause) = record (load_row 13 moment packet load) { code = cause_number cause }
row_of (AckTaken moment flow cwnd ssthresh) = window_row 16 moment flow cwnd ssthresh
row_of (TimerExpired moment flow cwnd ssthresh) = window_row 17 moment flow cwnd ssthresh
row_of (StepsSpent moment) = row_at 18 moment
row_of (RuleLine rule packets bytes) =
    record (row_at 19 0) { source = rule.number; number = fitted 32 packets; more = fitted 32 bytes }
row_of (PipeLine pipe config) = record (row_at 20 0) { pipe = pipe }
row_of (InstanceLine pipe instance waiting bytes busy in_flight drawn) = record (row_at 21 0) {
  packet = fitted 32 in_flight;
  source = fitted 32 drawn;
  number = fitted 32 waiting;
  more = fitted 32 bytes;
  pipe = pipe;
  instance = instance;
  code = if busy then 1 else 0;
}

-- the last row of an experiment; its drops are counted by their rows
abbrev pub counters_row : Counters → Row
counters_row c = record (row_at 22 0) {
  packet = fitted 32 c.made;
  source = fitted 32 c.held;
  number = fitted 32 c.delivered;
}

-- the columns of a row, in five words of eight bytes, and the number of its experiment, from 0, in the last byte
abbrev pub words_of_row : ℕ → Row → List ℕ
words_of_row experiment r =
    r.moment
    ∷ (r.packet + r.source * 2 ^ 32)
    ∷ (r.number + r.more * 2 ^ 32)
    ∷ (r.src + r.dst * 2 ^ 32)
    ∷ (r.size + r.pipe * 2 ^ 16 + r.kind * 2 ^ 32 + r.instance * 2 ^ 40 + r.code * 2 ^ 48 + experiment * 2 ^ 56)
    ∷ []

unfoldable pub row_bytes : ℕ → Row → List ℕ
row_bytes experiment r = flat_map (to_le_bytes w64) (words_of_row experiment r)

abbrev pub record_bytes : ℕ → Record → List ℕ
record_bytes experiment r = row_bytes experiment (row_of r)

-- the rows of an experiment
abbrev pub rows_of : ℕ → List Record → Counters → List ℕ
rows_of experiment records counters =
    flat_map (record_bytes experiment) records ++ row_bytes experiment (counters_row counters)

-- the start of a file of NumPy's format 1.0 whose header ends at 512 bytes
abbrev pub npy_start : List ℕ
npy_start = 147 ∷ codes "NUMPY" ++ 1 ∷ 0 ∷ 246 ∷ 1 ∷ []

unfoldable pub columns : List ℕ
columns = codes "{'descr': [('moment','<i8'),('packet','<u4'),('source','<u4'),('number','<u4'),('more','<u4'),('src','<u4'),('dst','<u4'),('size','<u2'),('pipe','<u2'),('kind','u1'),('instance','u1'),('code','u1'),('experiment','u1')], 'fortran_order': False, 'shape': ("

-- a text in `n` bytes, with spaces at its end
abbrev pub padded : ℕ → List ℕ → List ℕ
padded n text = take n text ++ replicate (n - length text) 32

-- the header for this number of rows
abbrev pub npy_header : ℕ → List ℕ
npy_header rows = padded 511 (npy_start ++ columns ++ decimal rows ++ codes ",), }") ++ codes "\n"
