use Rattle.std.proofs.Common.{◌≡◌, ◌≢◌, ℕ, ◌<◌, ◌≤◌, ◌⊎◌, ◌+◌, ◌^◌, inl, inr, cond, length, List, Option, Some, None, slice_get, refl, sym, ap, subst, ◌∙◌, arith}
use Rattle.std.proofs.lemmas.Option.{slice_get_within}
use Rattle.emu_model.specs.declared.sources.Source.{Source}
use Rattle.timer_wheel.specs.declared.Entry.{Entry}
use Rattle.timer_wheel.specs.declared.ties.Tie.{Tie}
use Rattle.timer_wheel.specs.Places.{place_of}
use Rattle.timer_wheel.specs.Ties.{TiesBook, Waits, tie_of}
use Rattle.timer_wheel.specs.Stocks.{StockBook, Holds, IsStock, due_of, room_of}
use Rattle.timer_wheel.specs.Stands.{WheelBook, StandsAt, IsWheel, IsTurned, IsStill, without_at, with_at}
use Rattle.timer_wheel.proofs.MoveFacts.{spread_none, spread_more, spread_done, fewer_put}
use Rattle.timer_wheel.proofs.TieMoves.{seat_next, seat_there, seat_weak}
use Rattle.timer_wheel.proofs.wheel.spread_ties.Goals as goal

pub loop-key-smaller : goal.loop-key-smaller
loop-key-smaller c = fewer_put c.loop-key.stock c.put.new.self c.in-Some.key 2049 c.seat-list.result c.put.ensures (λ e. omega (arith, c.seat-list.ensures.within)) c.in-Some.ensures.some

pub loop-key-preserved : goal.loop-key-preserved
loop-key-preserved c = record {
  spreading =
      spread_more (StandsAt c.args.clock c.loop-key.ties) (StandsAt c.args.clock c.seat-list.new.ties)
      (seat_weak c.args.clock c.seat-list.result c.entry-entry.result c.loop-key.ties c.seat-list.new.ties c.seat-list.ensures.seated)
      c.args.stock.now c.loop-key.stock c.put.new.self c.in-Some.key c.seat-list.result c.entry-entry.result c.loop-key.invariant.spreading
      c.in-Some.ensures.some c.entry-entry.ensures
      (seat_there c.args.clock c.seat-list.result c.entry-entry.result c.loop-key.ties c.seat-list.new.ties c.seat-list.ensures.seated c.loop-key.invariant.next)
      c.seat-list.ensures.within c.put.ensures;
  next = seat_next c.args.clock c.seat-list.result c.entry-entry.result c.loop-key.ties c.seat-list.new.ties c.seat-list.ensures.seated ∙ c.loop-key.invariant.next;
}

pub returns-clause-spread : goal.returns-clause-spread
returns-clause-spread c = spread_done (StandsAt c.args.clock c.loop-key.ties) c.args.stock.now c.loop-key.stock c.loop-key.invariant.spreading c.in_default.ensures.none
