use Rattle.std.proofs.Common.{◌≡◌, ℕ, ◌<◌, ◌≤◌, length, Some, slice_get}
use Rattle.timer_wheel.specs.Stocks.{room_of}
use Rattle.timer_wheel.proofs.stock.Stock.clear.Given as goal

abbrev pub invariant-loop-key : goal.invariant-loop-key
invariant-loop-key l = record {
  long : length l.self.slots ≡ length l.fn.self.slots;
  done : (k : ℕ) → k < l.key → slice_get l.self.slots k ≡ Some 2050;
  room : room_of l.fn.self ≤ room_of l.self;
}
