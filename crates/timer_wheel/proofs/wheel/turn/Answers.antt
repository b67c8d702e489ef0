use Rattle.std.proofs.Common.{◌≡◌, ◌≢◌, ℕ, ◌<◌, ◌≤◌, ◌⊎◌, ◌+◌, ◌^◌, inl, inr, false, cond, length, List, Option, Some, None, slice_get, refl, sym, ap, subst, ◌∙◌, arith}
use Rattle.std.proofs.lemmas.Option.{slice_get_within}
use Rattle.emu_model.specs.declared.sources.Source.{Source}
use Rattle.timer_wheel.specs.declared.Entry.{Entry}
use Rattle.timer_wheel.specs.declared.ties.Tie.{Tie}
use Rattle.timer_wheel.specs.Places.{place_of}
use Rattle.timer_wheel.specs.Rows.{is_before}
use Rattle.timer_wheel.specs.Ties.{TiesBook, Waits, tie_of}
use Rattle.timer_wheel.specs.Stocks.{StockBook, Holds, IsStock, due_of, room_of}
use Rattle.timer_wheel.specs.Stands.{WheelBook, StandsAt, IsWheel, IsTurned, IsStill, without_at, with_at}
use Rattle.timer_wheel.proofs.WheelFacts.{bare_wheel, passed_wheel, none_where_empty, popped_was, popped_least, popped_low, spread_rows, spread_placed, sorted_spread, alone_least, lifted_rows, lifted_placed, lifted_room}
use Rattle.timer_wheel.proofs.wheel.turn.Goals as goal

pub returns-in_err-first-clause-none : goal.returns-in_err-first-clause-none
returns-in_err-first-clause-none c =
    rw c.from_residual.ensures
    (record {
      empty = none_where_empty c.args.clock c.args.stock.now c.reveal_invariant.ensures (bare_wheel c.args.clock c.args.stock.now c.args.ties.now c.requires.wheel c.requires.passed) c.in_err-first.ensures.none;
      rows = λ o s. refl;
      wheel = c.requires.wheel;
      room = refl;
    })

pub returns-clause-some : goal.returns-clause-some
returns-clause-some c =
    let sp = sorted_spread c.in-Some.entry.due c.gather.new.stock c.spread_ties.new.stock c.spread_ties.new.ties c.sort.new.self (c.sort.ensures.next ∙ c.spread_ties.ensures.next) c.sort.ensures.permutation c.spread_ties.ensures.spread in
    record {
      was = popped_was c.args.clock c.args.stock.now c.reveal_invariant.ensures (bare_wheel c.args.clock c.args.stock.now c.args.ties.now c.requires.wheel c.requires.passed) c.in_ok-first.first c.in-Some.entry c.in-Some.ensures.there.0 c.in-Some.ensures.there.1 c.in_ok-first.ensures.first c.in-Some.ensures.least;
      least = popped_least c.args.clock c.args.stock.now c.reveal_invariant.ensures (bare_wheel c.args.clock c.args.stock.now c.args.ties.now c.requires.wheel c.requires.passed) c.in_ok-first.first c.in-Some.entry c.in-Some.ensures.there.0 c.in-Some.ensures.there.1 c.in_ok-first.ensures.first c.in-Some.ensures.least;
      low = popped_low c.args.clock c.args.stock.now c.reveal_invariant.ensures (bare_wheel c.args.clock c.args.stock.now c.args.ties.now c.requires.wheel c.requires.passed) c.in_ok-first.first c.in-Some.entry c.in-Some.ensures.there.0 c.in-Some.ensures.there.1 c.in_ok-first.ensures.first c.in-Some.ensures.least;
      rows = spread_rows c.args.clock c.args.stock.now c.reveal_invariant.ensures (bare_wheel c.args.clock c.args.stock.now c.args.ties.now c.requires.wheel c.requires.passed) c.in_ok-first.first c.in-Some.entry c.in-Some.ensures.there.0 c.in-Some.ensures.there.1 c.in_ok-first.ensures.first c.in-Some.ensures.least c.gather.new.stock c.spread_ties.new.stock c.sort.new.self c.in-Some.ensures.slots sp;
      placed = spread_placed c.args.clock c.args.stock.now c.reveal_invariant.ensures (bare_wheel c.args.clock c.args.stock.now c.args.ties.now c.requires.wheel c.requires.passed) c.in_ok-first.first c.in-Some.entry c.in-Some.ensures.there.0 c.in-Some.ensures.there.1 c.in_ok-first.ensures.first c.in-Some.ensures.least c.gather.new.stock c.spread_ties.new.stock c.sort.new.self c.in-Some.ensures.slots sp;
      rising = c.sort.ensures.rising;
      room = sp.room ∙ c.in-Some.ensures.room;
    }

pub returns-then-is_alone-clause-some : goal.returns-then-is_alone-clause-some
returns-then-is_alone-clause-some c =
    let alone : (k : ℕ) → slice_get c.args.stock.now.slots k ≡ Some c.in_ok-first.first → k ≡ c.lift.ensures.0 = λ k at. c.is_alone.ensures c.if-is_alone.true k c.lift.ensures.0 at c.lift.ensures.1.slot in
    let least : (k : ℕ) (x : Entry) → Holds c.args.stock.now.entries c.args.stock.now.slots k x c.in_ok-first.first → is_before x c.lift.result ≡ false = alone_least c.args.stock.now c.in_ok-first.first c.lift.result c.lift.ensures.0 c.lift.ensures.1 alone in
    record {
      was = popped_was c.args.clock c.args.stock.now c.reveal_invariant.ensures (bare_wheel c.args.clock c.args.stock.now c.args.ties.now c.requires.wheel c.requires.passed) c.in_ok-first.first c.lift.result c.lift.ensures.0 c.lift.ensures.1 c.in_ok-first.ensures.first least;
      least = popped_least c.args.clock c.args.stock.now c.reveal_invariant.ensures (bare_wheel c.args.clock c.args.stock.now c.args.ties.now c.requires.wheel c.requires.passed) c.in_ok-first.first c.lift.result c.lift.ensures.0 c.lift.ensures.1 c.in_ok-first.ensures.first least;
      low = popped_low c.args.clock c.args.stock.now c.reveal_invariant.ensures (bare_wheel c.args.clock c.args.stock.now c.args.ties.now c.requires.wheel c.requires.passed) c.in_ok-first.first c.lift.result c.lift.ensures.0 c.lift.ensures.1 c.in_ok-first.ensures.first least;
      rows = lifted_rows c.args.clock c.args.stock.now c.reveal_invariant.ensures (bare_wheel c.args.clock c.args.stock.now c.args.ties.now c.requires.wheel c.requires.passed) c.in_ok-first.first c.lift.result c.lift.ensures.0 c.lift.ensures.1 c.in_ok-first.ensures.first least alone c.lift.new.stock c.clear.new.self c.lift.ensures.2;
      placed = lifted_placed c.args.clock c.args.stock.now c.reveal_invariant.ensures (bare_wheel c.args.clock c.args.stock.now c.args.ties.now c.requires.wheel c.requires.passed) c.in_ok-first.first c.lift.result c.lift.ensures.0 c.lift.ensures.1 c.in_ok-first.ensures.first least alone c.lift.new.stock c.clear.new.self c.lift.ensures.2;
      rising = rw c.clear.ensures (λ i j d le lt. absurd (omega arith));
      room = lifted_room c.args.clock c.args.stock.now c.reveal_invariant.ensures (bare_wheel c.args.clock c.args.stock.now c.args.ties.now c.requires.wheel c.requires.passed) c.in_ok-first.first c.lift.result c.lift.ensures.0 c.lift.ensures.1 c.in_ok-first.ensures.first least alone c.lift.new.stock c.clear.new.self c.lift.ensures.2;
    }
