-- The times and the packet numbers in a run's records are bounded (our choice), so that a column of fixed width holds them.
use Rattle.std.specs.Prelude.{ℕ, ◌+◌, ◌^◌, ◌<◌, ◌≤◌, List, [], ◌∷◌, flat_map}
use Rattle.std.specs.List.{AllByRecursion}
use Rattle.emu_model.specs.declared.records.Record.{Record}
use Rattle.emu_model.specs.declared.records.Record.TheVariants.{PacketMade, PacketArrived, PacketFinished, PacketDelivered, PacketPassed, PacketDropped}
use Rattle.emu_model.specs.declared.commands.Spec.{Spec}
use Rattle.emu_model.specs.declared.commands.Timed.{Timed}
use Rattle.emu_model.specs.Step.{step}
use Rattle.emu_model.specs.Alone.{alone}
use Rattle.emu_laws.specs.RecordOrder.{moments_of}

-- the number of the packet that a record names, if it names one
abbrev pub packet_of : Record → List ℕ
packet_of (PacketMade moment packet origin proto src sport dst dport size) = packet ∷ []
packet_of (PacketArrived moment packet pipe instance) = packet ∷ []
packet_of (PacketFinished moment packet pipe instance) = packet ∷ []
packet_of (PacketDelivered moment packet load) = packet ∷ []
packet_of (PacketPassed moment packet pipe instance) = packet ∷ []
packet_of (PacketDropped moment packet load cause) = packet ∷ []
packet_of _ = []

abbrev pub packets_of : List Record → List ℕ
packets_of rs = flat_map packet_of rs

-- the maximum number of packets that a step creates
abbrev pub most_made : ℕ
most_made = 1

-- no record is later than the latest command; a step creates at most one packet, and a run takes at most the steps of its budget; the
-- numbers of packets in the records are less than the number of packets created. So in a run of at most 10 ^ 7 steps, with commands at
-- 10 ^ 15 ns at the latest, each time is less than 2 ^ 63 and each number of a packet less than 2 ^ 32
pub record NumbersAreBounded : Type 0 where
  pub moments : (spec : Spec) (c : List Timed) (n latest : ℕ) → AllByRecursion (λ t. t.moment ≤ latest) c →
      AllByRecursion (λ m. m ≤ latest) (moments_of (alone spec c n).net.records)
  pub in_a_step : (spec : Spec) (c : List Timed) (n : ℕ) →
      let s = alone spec c n in
      (step s).net.made ≤ s.net.made + most_made
  pub made : (spec : Spec) (c : List Timed) (n : ℕ) → (alone spec c n).net.made ≤ (alone spec c n).steps
  pub steps : (spec : Spec) (c : List Timed) (n : ℕ) → 1 ≤ spec.budget.steps →
      (alone spec c n).steps ≤ spec.budget.steps
  pub packets : (spec : Spec) (c : List Timed) (n : ℕ) →
      AllByRecursion (λ k. k < (alone spec c n).net.made) (packets_of (alone spec c n).net.records)
  pub in_columns : (spec : Spec) (c : List Timed) (n : ℕ) → 1 ≤ spec.budget.steps → spec.budget.steps ≤ 10 ^ 7 →
      AllByRecursion (λ t. t.moment ≤ 10 ^ 15) c →
      let records = (alone spec c n).net.records in
      AllByRecursion (λ m. m < 2 ^ 63) (moments_of records) × AllByRecursion (λ k. k < 2 ^ 32) (packets_of records)
