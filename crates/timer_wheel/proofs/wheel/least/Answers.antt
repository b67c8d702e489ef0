use Rattle.std.proofs.Common.{◌≡◌, ◌≢◌, ℕ, ◌<◌, ◌≤◌, ◌⊎◌, ◌+◌, ◌^◌, inl, inr, cond, length, List, Option, Some, None, slice_get, refl, sym, ap, subst, ◌∙◌, arith}
use Rattle.std.proofs.lemmas.Option.{slice_get_within}
use Rattle.emu_model.specs.declared.sources.Source.{Source}
use Rattle.timer_wheel.specs.declared.Entry.{Entry}
use Rattle.timer_wheel.specs.declared.ties.Tie.{Tie}
use Rattle.timer_wheel.specs.Places.{place_of}
use Rattle.timer_wheel.specs.Ties.{TiesBook, Waits, tie_of}
use Rattle.timer_wheel.specs.Stocks.{StockBook, Holds, IsStock, due_of, room_of}
use Rattle.timer_wheel.specs.Stands.{WheelBook, StandsAt, IsWheel, IsTurned, IsStill, without_at, with_at}
use Rattle.timer_wheel.proofs.WheelFacts.{passed_wheel}
use Rattle.timer_wheel.proofs.wheel.least.Goals as goal

pub turn-requires-clause-wheel : goal.turn-requires-clause-wheel
turn-requires-clause-wheel c = passed_wheel c.args.clock c.args.stock.now c.args.ties.now c.next_tie.new.ties c.in_default.ensures.items c.in_default.ensures.kept c.requires

pub meet-requires-clause-wheel : goal.meet-requires-clause-wheel
meet-requires-clause-wheel c = passed_wheel c.args.clock c.args.stock.now c.args.ties.now c.next_tie.new.ties c.in-Some.ensures.items c.in-Some.ensures.kept c.requires
