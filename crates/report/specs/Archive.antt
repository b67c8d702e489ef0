-- Records in sixteen bytes each. Those that don't fit, or are rare, are stored whole in a second list (our choice).
use Rattle.std.specs.Prelude.{◌≡◌, ℕ, Bool, Option, None, Some, [], ◌∷◌, true, false, zero, suc, ◌+◌, ◌*◌, ◌/◌, ◌%◌, ◌^◌, ◌<◌, List, length, slice_index_or}
use Rattle.emu_model.specs.declared.packets.Load.TheVariants.{Plain, Seg, Ack}
use Rattle.emu_model.specs.declared.packets.Origin.{Origin}
use Rattle.emu_model.specs.declared.packets.Origin.TheVariants.{ByCommand, ByTrain, BySender, ByReceiver}
use Rattle.emu_model.specs.declared.records.DropCause.{DropCause}
use Rattle.emu_model.specs.declared.records.DropCause.TheVariants.{Denied, NoPipe, NoInstance, Lost, Full, Codel, Deleted, Budget}
use Rattle.emu_model.specs.declared.records.Record.{Record}
use Rattle.emu_model.specs.declared.records.Record.TheVariants.{CommandDone, PacketMade, PacketArrived, PacketFinished, PacketDelivered, PacketPassed, PacketDropped, AckTaken, TimerExpired, StepsSpent}
use Rattle.report.specs.declared.packed.Kind.{Kind}
use Rattle.report.specs.declared.packed.Kind.TheVariants.{Whole, Done, Arrived, Finished, Delivered, Segment, Acknowledged, Passed, Dropped, Window, Expired, Made, Entered}
use Rattle.report.specs.declared.packed.Parts.{Parts}
use Rattle.report.specs.declared.packed.Packed.{Packed}
use Rattle.report.specs.declared.reader.Rest.{Rest}
use Rattle.report.specs.declared.reader.Rest.TheVariants.{All, Second}

abbrev pub rank : Kind → ℕ
rank Whole = 0
rank Done = 1
rank Arrived = 2
rank Finished = 3
rank Delivered = 4
rank Segment = 5
rank Acknowledged = 6
rank Passed = 7
rank Dropped = 8
rank Window = 9
rank Expired = 10
rank Made = 11
rank Entered = 12

abbrev pub kind_at : ℕ → Kind
kind_at zero = Whole
kind_at (suc zero) = Done
kind_at (suc (suc zero)) = Arrived
kind_at (suc (suc (suc zero))) = Finished
kind_at (suc (suc (suc (suc zero)))) = Delivered
kind_at (suc (suc (suc (suc (suc zero))))) = Segment
kind_at (suc (suc (suc (suc (suc (suc zero)))))) = Acknowledged
kind_at (suc (suc (suc (suc (suc (suc (suc zero))))))) = Passed
kind_at (suc (suc (suc (suc (suc (suc (suc (suc zero)))))))) = Dropped
kind_at (suc (suc (suc (suc (suc (suc (suc (suc (suc zero))))))))) = Window
kind_at (suc (suc (suc (suc (suc (suc (suc (suc (suc (suc zero)))))))))) = Expired
kind_at (suc (suc (suc (suc (suc (suc (suc (suc (suc (suc (suc zero))))))))))) = Made
kind_at (suc (suc (suc (suc (suc (suc (suc (suc (suc (suc (suc (suc zero)))))))))))) = Entered
kind_at (suc (suc (suc (suc (suc (suc (suc (suc (suc (suc (suc (suc (suc n))))))))))))) = Whole

abbrev pub cause_at : ℕ → DropCause
cause_at zero = Denied
cause_at (suc zero) = Denied
cause_at (suc (suc zero)) = NoPipe
cause_at (suc (suc (suc zero))) = NoInstance
cause_at (suc (suc (suc (suc zero)))) = Lost
cause_at (suc (suc (suc (suc (suc zero))))) = Full
cause_at (suc (suc (suc (suc (suc (suc zero)))))) = Codel
cause_at (suc (suc (suc (suc (suc (suc (suc zero))))))) = Deleted
cause_at (suc (suc (suc (suc (suc (suc (suc (suc n)))))))) = Budget

-- the parts in two words: `tag` and `moment` in `high`, and `kind`, `packet` and `number` in `low`, from the lowest
-- bits up
abbrev pub words_of : Parts → Packed
words_of p = record { high = p.moment * 2 ^ 16 + p.tag; low = p.number * 2 ^ 30 + (p.packet * 2 ^ 4 + rank p.kind) }

-- the parts in two words
abbrev pub parts_in : Packed → Parts
parts_in w = record {
  kind = kind_at (w.low % 2 ^ 4);
  moment = w.high / 2 ^ 16;
  tag = w.high % 2 ^ 16;
  packet = w.low / 2 ^ 4 % 2 ^ 26;
  number = w.low / 2 ^ 30;
}

-- the record of a kind, with these parts
abbrev pub record_of_kind : Kind → ℕ → ℕ → ℕ → ℕ → Record
record_of_kind Whole moment tag packet number = StepsSpent moment
record_of_kind Done moment tag packet number = CommandDone moment number
record_of_kind Arrived moment tag packet number = PacketArrived moment packet tag number
record_of_kind Finished moment tag packet number = PacketFinished moment packet tag number
record_of_kind Delivered moment tag packet number = PacketDelivered moment packet Plain
record_of_kind Segment moment tag packet number = PacketDelivered moment packet (Seg tag number)
record_of_kind Acknowledged moment tag packet number = PacketDelivered moment packet (Ack tag number)
record_of_kind Passed moment tag packet number = PacketPassed moment packet tag number
record_of_kind Dropped moment tag packet number = PacketDropped moment packet Plain (cause_at tag)
record_of_kind Window moment tag packet number = AckTaken moment tag packet number
record_of_kind Expired moment tag packet number = TimerExpired moment tag packet number
record_of_kind Made moment tag packet number = StepsSpent moment
record_of_kind Entered moment tag packet number = StepsSpent moment

abbrev pub record_of : Parts → Record
record_of p = record_of_kind p.kind p.moment p.tag p.packet p.number

-- a record of this kind isn't in its two words alone
abbrev pub is_elsewhere : Kind → Bool
is_elsewhere Whole = true
is_elsewhere Made = true
is_elsewhere Entered = true
is_elsewhere _ = false

-- the ranges of a kind's tag and number: flows and pipes are numbered from 1, and instances up to 255
abbrev pub Names : Kind → ℕ → ℕ → Type 0
Names Whole tag number = ⊥
Names Done tag number = Unit {0}
Names Arrived tag number = (0 < tag) × (number < 256)
Names Finished tag number = (0 < tag) × (number < 256)
Names Delivered tag number = Unit {0}
Names Segment tag number = 0 < tag
Names Acknowledged tag number = 0 < tag
Names Passed tag number = (0 < tag) × (number < 256)
Names Dropped tag number = Unit {0}
Names Window tag number = 0 < tag
Names Expired tag number = 0 < tag
Names Made tag number = ⊥
Names Entered tag number = ⊥

-- an origin with another number: that of a command, a first byte or an acknowledged number
abbrev pub origin_with : Origin → ℕ → Origin
origin_with (ByCommand command) number = ByCommand number
origin_with (ByTrain train) number = ByTrain train
origin_with (BySender flow first) number = BySender flow number
origin_with (ByReceiver flow upto) number = ByReceiver flow number

-- a packet that was created as another one, with these parts' number, time and packet
abbrev pub made_as : Record → Parts → Record
made_as (PacketMade moment packet origin proto src sport dst dport size) p =
    PacketMade p.moment p.packet (origin_with origin p.number) proto src sport dst dport size
made_as r p = r

-- an arrival as another one, of these parts' packet and at their time
abbrev pub arrived_as : Record → Parts → Record
arrived_as (PacketArrived moment packet pipe instance) p = PacketArrived p.moment p.packet pipe instance
arrived_as r p = r

abbrev pub IsArrival : Record → Type 0
IsArrival (PacketArrived moment packet pipe instance) = Unit {0}
IsArrival r = ⊥

-- the record in two words, the whole record at the place that they contain, or a packet created as the whole one at their tag
abbrev pub entry_of_kind : Kind → List Record → Packed → Record
entry_of_kind Whole others w = slice_index_or others w.high (StepsSpent 0)
entry_of_kind Made others w = made_as (slice_index_or others (parts_in w).tag (StepsSpent 0)) (parts_in w)
entry_of_kind Entered others w = made_as (slice_index_or others (parts_in w).tag (StepsSpent 0)) (parts_in w)
entry_of_kind kind others w = record_of (parts_in w)

abbrev pub entry_of : List Record → Packed → Record
entry_of others w = entry_of_kind (parts_in w).kind others w

-- the arrival that follows a packet's creation in two words: as the whole record behind that of the creation
abbrev pub arrival_of : List Record → Packed → Record
arrival_of others w = arrived_as (slice_index_or others (suc (parts_in w).tag) (StepsSpent 0)) (parts_in w)

-- the records in two words: one, or the creation of a packet and its arrival
abbrev pub entries_of_kind : Kind → List Record → Packed → List Record
entries_of_kind Entered others w = entry_of_kind Entered others w ∷ arrival_of others w ∷ []
entries_of_kind kind others w = entry_of_kind kind others w ∷ []

abbrev pub entries_of : List Record → Packed → List Record
entries_of others w = entries_of_kind (parts_in w).kind others w

-- what is left of words that are being read: nothing, all of their records, or the second
abbrev pub left_of : List Record → Option Rest → List Record
left_of others None = []
left_of others (Some (All w)) = entries_of others w
left_of others (Some (Second w)) = arrival_of others w ∷ []

-- what is left behind the first record of words
abbrev pub behind_first : Kind → Packed → Option Rest
behind_first Entered w = Some (Second w)
behind_first kind w = None

-- the words have parts in range, or the places of whole records
abbrev pub IsPair : List Record → Packed → Type 0
IsPair others w = (suc (parts_in w).tag < length others) × IsArrival (slice_index_or others (suc (parts_in w).tag) (StepsSpent 0))

abbrev pub IsEntryOfKind : Kind → List Record → Packed → Type 0
IsEntryOfKind Whole others w = w.high < length others
IsEntryOfKind Made others w = (parts_in w).tag < length others
IsEntryOfKind Entered others w = IsPair others w
IsEntryOfKind kind others w = Names kind (parts_in w).tag (parts_in w).number

abbrev pub IsEntry : List Record → Packed → Type 0
IsEntry others w = IsEntryOfKind (parts_in w).kind others w

abbrev pub IsLeft : List Record → Option Rest → Type 0
IsLeft others None = Unit {0}
IsLeft others (Some (All w)) = IsEntry others w
IsLeft others (Some (Second w)) = IsPair others w

-- what the words meant, they still mean
abbrev pub Stay : List Record → List Record → Type 0
Stay os qs = (w : Packed) → IsEntry os w → IsEntry qs w × (entries_of qs w ≡ entries_of os w)

-- the parts of a record, with the words in which they were found
abbrev pub SpellsKind : Kind → List Record → Packed → Parts → Record → Type 0
SpellsKind Whole others w p r = (w.high < length others) × (slice_index_or others w.high (StepsSpent 0) ≡ r)
SpellsKind Made others w p r = (p.tag < length others) × (made_as (slice_index_or others p.tag (StepsSpent 0)) p ≡ r)
SpellsKind Entered others w p r = (p.tag < length others) × (made_as (slice_index_or others p.tag (StepsSpent 0)) p ≡ r)
SpellsKind kind others w p r = Names kind p.tag p.number × (record_of p ≡ r)

abbrev pub Spells : List Record → Packed → Parts → Record → Type 0
Spells others w p r = SpellsKind p.kind others w p r
