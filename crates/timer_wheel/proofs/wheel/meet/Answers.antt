use Rattle.std.proofs.Common.{◌≡◌, ◌≢◌, ℕ, ◌<◌, ◌≤◌, ◌⊎◌, ◌+◌, ◌^◌, inl, inr, cond, length, List, Option, Some, None, slice_get, refl, sym, ap, subst, ◌∙◌, arith}
use Rattle.std.proofs.lemmas.Option.{slice_get_within}
use Rattle.emu_model.specs.declared.sources.Source.{Source}
use Rattle.timer_wheel.specs.declared.Entry.{Entry}
use Rattle.timer_wheel.specs.declared.ties.Tie.{Tie}
use Rattle.timer_wheel.specs.Places.{place_of}
use Rattle.timer_wheel.specs.Ties.{TiesBook, Waits, tie_of}
use Rattle.timer_wheel.specs.Stocks.{StockBook, Holds, IsStock, due_of, room_of}
use Rattle.timer_wheel.specs.Stands.{WheelBook, StandsAt, IsWheel, IsTurned, IsStill, without_at, with_at}
use Rattle.timer_wheel.proofs.WheelFacts.{met}
use Rattle.timer_wheel.proofs.MoveFacts.{IsLesser}
use Rattle.timer_wheel.proofs.wheel.meet.Goals as goal

pub returns : goal.returns
returns c =
    let h : (k : ℕ) × (e : Entry) × Holds c.args.stock.now.entries c.args.stock.now.slots k e 2048 × (tie_of e ≡ c.args.tie) = c.requires.held in
    let p : c.place.result ≡ place_of c.args.clock c.args.clock = c.place.ensures.place in
    let there = rw p at c.gather-arrival.ensures.there in
    let first = rw p at c.gather-arrival.ensures.least in
    let none = rw p at c.gather-arrival.ensures.none in
    let slots = rw p at c.gather-arrival.ensures.slots in
    met c.args.clock c.args.stock.now c.args.ties.now c.reveal_invariant.ensures c.requires.wheel c.args.tie h.0 h.1 h.2 h.3 c.requires.top c.gather-arrival.result c.lesser_of.result there first none
    (record { either = c.lesser_of.ensures.either; entry = c.lesser_of.ensures.entry; least_too = c.lesser_of.ensures.least })
    c.gather-arrival.new.stock c.spread.new.stock slots c.spread.ensures (c.spread.ensures.room ∙ c.gather-arrival.ensures.room)
