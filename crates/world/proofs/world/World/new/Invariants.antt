use Rattle.std.proofs.Common.{◌≡◌, ℕ, None, [], length}
use Rattle.world.specs.Places.{stand_at, deque_at}
use Rattle.world.proofs.world.World.new.Given as goal

abbrev pub invariant-loop : goal.invariant-loop
invariant-loop g l = record {
  vacant : (i slot : ℕ) → stand_at l.all.items i slot ≡ None;
  empty : (i : ℕ) → deque_at l.deques.items i ≡ [];
  shards_long : length l.all.items ≡ l.counter;
  deques_long : length l.deques.items ≡ l.counter;
}
