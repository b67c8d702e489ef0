use Rattle.std.proofs.Common.{◌≡◌, ◌+◌, ◌≤◌, length}
use Rattle.std.specs.VecDeque.{deque_capacity, deque_len}
use Rattle.reno_core.specs.Kept.{filled, Rises, IsApart}
use Rattle.reno_core.proofs.receiver.absorb_some.Given as goal

abbrev pub invariant-following : goal.invariant-following
invariant-following l = record {
  came : filled l.smss l.count l.others.items ≡ filled l.smss l.initial.count l.initial.others.items;
  total : l.count + length l.others.items ≡ l.initial.count + length l.initial.others.items;
  grown : l.initial.count ≤ l.count;
  rises : Rises l.others.items;
  apart : IsApart l.smss l.count l.others.items;
  capacity : deque_capacity l.others ≡ deque_capacity l.initial.others;
}

abbrev pub decreases-following : goal.decreases-following
decreases-following l = deque_len l.others
