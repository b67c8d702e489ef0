-- The records of a run are in the order of their times (our choice: the clock never goes back).
use Rattle.std.specs.Prelude.{ℕ, ◌≤◌, List, [], ◌∷◌, flat_map}
use Rattle.emu_model.specs.declared.records.Record.{Record}
use Rattle.emu_model.specs.declared.records.Record.TheVariants.{CommandDone, CommandRefused, PacketMade, PacketArrived, InstanceIdentified, PacketFinished, PacketDelivered, PacketPassed, PacketDropped, AckTaken, TimerExpired, StepsSpent, RuleLine, PipeLine, InstanceLine}
use Rattle.emu_model.specs.declared.commands.Spec.{Spec}
use Rattle.emu_model.specs.declared.commands.Timed.{Timed}
use Rattle.emu_model.specs.DueLaws.{AreRising}
use Rattle.emu_model.specs.Alone.{alone}

-- the time of a record; the lines of `show` and `pipe show` have none
abbrev pub moment_of : Record → List ℕ
moment_of (CommandDone moment command) = moment ∷ []
moment_of (CommandRefused moment command refusal) = moment ∷ []
moment_of (PacketMade moment packet origin proto src sport dst dport size) = moment ∷ []
moment_of (PacketArrived moment packet pipe instance) = moment ∷ []
moment_of (InstanceIdentified moment pipe instance proto src dst sport dport) = moment ∷ []
moment_of (PacketFinished moment packet pipe instance) = moment ∷ []
moment_of (PacketDelivered moment packet load) = moment ∷ []
moment_of (PacketPassed moment packet pipe instance) = moment ∷ []
moment_of (PacketDropped moment packet load cause) = moment ∷ []
moment_of (AckTaken moment flow cwnd ssthresh) = moment ∷ []
moment_of (TimerExpired moment flow cwnd ssthresh) = moment ∷ []
moment_of (StepsSpent moment) = moment ∷ []
moment_of (RuleLine rule packets bytes) = []
moment_of (PipeLine pipe config) = []
moment_of (InstanceLine pipe instance waiting bytes busy in_flight drawn) = []

abbrev pub moments_of : List Record → List ℕ
moments_of rs = flat_map moment_of rs

-- numbers that are at least `low` and never decrease
abbrev pub NeverFall : ℕ → List ℕ → Type 0
NeverFall low [] = Unit {0}
NeverFall low (m ∷ ms) = (low ≤ m) × NeverFall m ms

-- if the times of the commands never decrease, neither do those of the records, in every state
abbrev pub RecordsAreInOrder : Type 0
RecordsAreInOrder = (spec : Spec) (c : List Timed) (n : ℕ) → AreRising 0 c →
    NeverFall 0 (moments_of (alone spec c n).net.records)
