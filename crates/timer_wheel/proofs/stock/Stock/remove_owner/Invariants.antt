use Rattle.std.proofs.Common.{◌≡◌, ℕ, ◌%◌, ◌==◌, Some, slice_get, count_by}
use Rattle.timer_wheel.specs.declared.Entry.{Entry}
use Rattle.timer_wheel.specs.Stocks.{Holds, IsThinned}
use Rattle.timer_wheel.proofs.stock.Stock.remove_owner.Given as goal

abbrev pub invariant-loop-key : goal.invariant-loop-key
invariant-loop-key l = IsThinned l.fn.owner l.fn.self l.self

abbrev pub decreases-loop-key : goal.decreases-loop-key
decreases-loop-key l = count_by (λ x. x == l.fn.owner % 2048) l.self.owners

abbrev pub invariant-loop-key-2 : goal.invariant-loop-key-2
invariant-loop-key-2 l = record {
  thin : IsThinned l.fn.owner l.fn.self l.self;
  away : (k : ℕ) (e : Entry) (p : ℕ) → Holds l.self.entries l.self.slots k e p → e.owner ≡ l.fn.owner → slice_get l.self.owners k ≡ Some 2049;
}

abbrev pub decreases-loop-key-2 : goal.decreases-loop-key-2
decreases-loop-key-2 l = count_by (λ x. x == 2049) l.self.owners
