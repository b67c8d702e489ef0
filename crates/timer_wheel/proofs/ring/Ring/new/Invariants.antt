use Rattle.std.proofs.Common.{◌≡◌, ℕ, ◌<◌, length, get_or}
use Rattle.timer_wheel.specs.Rings.{blank}
use Rattle.timer_wheel.proofs.ring.Ring.new.Given as goal

abbrev pub invariant-loop-list : goal.invariant-loop-list
invariant-loop-list l = record {
  long : length l.links.items ≡ l.list;
  own : (q : ℕ) → q < l.list → get_or l.links.items q blank ≡ record { list = q; next = q; prev = q };
}
