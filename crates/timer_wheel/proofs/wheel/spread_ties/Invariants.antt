use Rattle.std.proofs.Common.{◌≡◌, ℕ, ◌==◌, ◌-◌, length, count_by}
use Rattle.emu_model.specs.declared.sources.Source.{Source}
use Rattle.timer_wheel.specs.declared.Entry.{Entry}
use Rattle.timer_wheel.specs.declared.ties.Tie.{Tie}
use Rattle.timer_wheel.specs.Places.{place_of}
use Rattle.timer_wheel.specs.Ties.{TiesBook, Waits, tie_of}
use Rattle.timer_wheel.specs.Stocks.{StockBook, Holds, IsStock, due_of, room_of}
use Rattle.timer_wheel.specs.Stands.{WheelBook, StandsAt, IsWheel, IsTurned, IsStill, without_at, with_at}
use Rattle.timer_wheel.proofs.MoveFacts.{IsSpreading, IsGathered}
use Rattle.timer_wheel.proofs.wheel.spread_ties.Given as goal

abbrev pub invariant-loop-key : goal.invariant-loop-key
invariant-loop-key l = record {
  spreading : IsSpreading (StandsAt l.fn.clock l.ties) l.fn.stock l.stock;
  next : l.ties.next ≡ 0;
}

abbrev pub decreases-loop-key : goal.decreases-loop-key
decreases-loop-key l = count_by (λ x. x == 2049) l.stock.slots
