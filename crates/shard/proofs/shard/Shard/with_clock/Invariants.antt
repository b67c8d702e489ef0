use Rattle.std.proofs.Common.{◌≡◌, ℕ, ◌≤◌, None, length, get_or}
use Rattle.std.specs.Vec.{vec_capacity}
use Rattle.shard.proofs.shard.Shard.with_clock.Given as goal

abbrev pub invariant-loop : goal.invariant-loop
invariant-loop g l =
    (length l.slots.items ≡ l.counter) × ((k : ℕ) → get_or l.slots.items k None ≡ None) × (256 ≤ vec_capacity l.slots)
