-- Every acknowledgement that is created answers a segment that was delivered (RFC 5681, section 4.2; that each segment is
-- acknowledged at once is our choice).
use Rattle.std.specs.Prelude.{◌≡◌, ℕ, Option, Some, None, List, [], ◌∷◌}
use Rattle.emu_model.specs.declared.packets.Load.TheVariants.{Seg}
use Rattle.emu_model.specs.declared.packets.Origin.TheVariants.{ByReceiver}
use Rattle.emu_model.specs.declared.records.Record.{Record}
use Rattle.emu_model.specs.declared.records.Record.TheVariants.{PacketMade, PacketDelivered}
use Rattle.emu_model.specs.declared.commands.Spec.{Spec}
use Rattle.emu_model.specs.declared.commands.Timed.{Timed}
use Rattle.emu_model.specs.Alone.{alone}

-- the record of the delivery of a segment of flow k at this time
abbrev pub DeliversSegment : ℕ → ℕ → Record → Type 0
DeliversSegment k moment (PacketDelivered delivery packet (Seg flow first)) = (flow ≡ k) × (delivery ≡ moment)
DeliversSegment k moment r = ⊥

-- if a record is the creation of an acknowledgement, the record before it is the delivery of a segment of the same flow at
-- the same time
abbrev pub Answers : Option Record → Record → Type 0
Answers before (PacketMade moment packet (ByReceiver k upto) proto src sport dst dport size) =
    (r : Record) × (before ≡ Some r) × DeliversSegment k moment r
Answers before r = Unit {0}

abbrev pub EachAnswers : Option Record → List Record → Type 0
EachAnswers before [] = Unit {0}
EachAnswers before (r ∷ rs) = Answers before r × EachAnswers (Some r) rs

-- in the records of each run, the creation of each acknowledgement directly follows such a delivery
abbrev pub AcksAnswerSegments : Type 0
AcksAnswerSegments = (spec : Spec) (c : List Timed) (n : ℕ) → EachAnswers None (alone spec c n).net.records
