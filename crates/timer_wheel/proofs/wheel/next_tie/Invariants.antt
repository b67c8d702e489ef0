use Rattle.std.proofs.Common.{◌≡◌, ℕ, ◌==◌, ◌-◌, length, count_by}
use Rattle.emu_model.specs.declared.sources.Source.{Source}
use Rattle.timer_wheel.specs.declared.Entry.{Entry}
use Rattle.timer_wheel.specs.declared.ties.Tie.{Tie}
use Rattle.timer_wheel.specs.Places.{place_of}
use Rattle.timer_wheel.specs.Ties.{TiesBook, Waits, tie_of}
use Rattle.timer_wheel.specs.Stocks.{StockBook, Holds, IsStock, due_of, room_of}
use Rattle.timer_wheel.specs.Stands.{WheelBook, StandsAt, IsWheel, IsTurned, IsStill, without_at, with_at}
use Rattle.timer_wheel.proofs.MoveFacts.{IsSpreading, IsGathered}
use Rattle.timer_wheel.proofs.wheel.next_tie.Given as goal

abbrev pub invariant-loop-tie : goal.invariant-loop-tie
invariant-loop-tie l = record {
  items : l.ties.items ≡ l.fn.ties.items;
  kept : (k : ℕ) (e : Entry) → Holds l.fn.stock.entries l.fn.stock.slots k e 2048 → Waits l.fn.ties (tie_of e) → Waits l.ties (tie_of e);
}

abbrev pub decreases-loop-tie : goal.decreases-loop-tie
decreases-loop-tie l = length l.ties.items - l.ties.next
