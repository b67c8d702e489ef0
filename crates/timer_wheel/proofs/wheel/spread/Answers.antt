use Rattle.std.proofs.Common.{◌≡◌, ◌≢◌, ℕ, ◌<◌, ◌≤◌, ◌⊎◌, ◌+◌, ◌^◌, inl, inr, cond, length, List, Option, Some, None, slice_get, refl, sym, ap, subst, ◌∙◌, arith}
use Rattle.std.proofs.lemmas.Option.{slice_get_within}
use Rattle.emu_model.specs.declared.sources.Source.{Source}
use Rattle.timer_wheel.specs.declared.Entry.{Entry}
use Rattle.timer_wheel.specs.declared.ties.Tie.{Tie}
use Rattle.timer_wheel.specs.Places.{place_of}
use Rattle.timer_wheel.specs.Ties.{TiesBook, Waits, tie_of}
use Rattle.timer_wheel.specs.Stocks.{StockBook, Holds, IsStock, due_of, room_of}
use Rattle.timer_wheel.specs.Stands.{WheelBook, StandsAt, IsWheel, IsTurned, IsStill, without_at, with_at}
use Rattle.timer_wheel.proofs.MoveFacts.{spread_none, spread_more, spread_done, fewer_put}
use Rattle.timer_wheel.proofs.wheel.spread.Goals as goal

pub loop-key-smaller : goal.loop-key-smaller
loop-key-smaller c = fewer_put c.loop-key.stock c.put.new.self c.in-Some.key 2049 c.place.result c.put.ensures (λ e. omega (arith, c.place.ensures.within)) c.in-Some.ensures.some

pub loop-key-preserved : goal.loop-key-preserved
loop-key-preserved c =
    let low : c.place.result < 2049 = omega (arith, c.place.ensures.within) in
    spread_more (λ (p : ℕ) (e : Entry). p ≡ place_of c.args.clock e.due) (λ (p : ℕ) (e : Entry). p ≡ place_of c.args.clock e.due) (λ p e x. x) c.args.stock.now c.loop-key.stock c.put.new.self c.in-Some.key c.place.result c.entry-due.result c.loop-key.invariant
    c.in-Some.ensures.some c.entry-due.ensures c.place.ensures.place low c.put.ensures

pub returns : goal.returns
returns c = spread_done (λ (p : ℕ) (e : Entry). p ≡ place_of c.args.clock e.due) c.args.stock.now c.loop-key.stock c.loop-key.invariant c.in_default.ensures.none
