use Rattle.std.proofs.Common.{◌≡◌, ◌≢◌, ℕ, ◌<◌, Some}
use Rattle.shard.specs.Stand.{Seat, seat_at}
use Rattle.shard.proofs.shard.Shard.slot_of.Given as goal

abbrev pub invariant-loop-slot : goal.invariant-loop-slot
invariant-loop-slot g l =
    (k : ℕ) → k < l.slot → (s : Seat _) → seat_at l.self.seats k ≡ Some s → s.stand.name ≢ l.name
