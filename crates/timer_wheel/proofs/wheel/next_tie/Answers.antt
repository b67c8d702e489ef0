use Rattle.std.proofs.Common.{◌≡◌, ◌≢◌, ℕ, ◌<◌, ◌≤◌, ◌⊎◌, ◌+◌, ◌^◌, inl, inr, cond, length, List, Option, Some, None, slice_get, refl, sym, ap, subst, ◌∙◌, arith}
use Rattle.std.proofs.lemmas.Option.{slice_get_within}
use Rattle.emu_model.specs.declared.sources.Source.{Source}
use Rattle.timer_wheel.specs.declared.Entry.{Entry}
use Rattle.timer_wheel.specs.declared.ties.Tie.{Tie}
use Rattle.timer_wheel.specs.Places.{place_of}
use Rattle.timer_wheel.specs.Ties.{TiesBook, Waits, tie_of}
use Rattle.timer_wheel.specs.Stocks.{StockBook, Holds, IsStock, due_of, room_of}
use Rattle.timer_wheel.specs.Stands.{WheelBook, StandsAt, IsWheel, IsTurned, IsStill, without_at, with_at}
use Rattle.timer_wheel.proofs.TieMoves.{waits_advance}
use Rattle.timer_wheel.proofs.wheel.next_tie.Goals as goal

pub loop-tie-preserved : goal.loop-tie-preserved
loop-tie-preserved c = record {
  items = ap (λ (b : TiesBook). b.items) c.advance.ensures ∙ c.loop-tie.invariant.items;
  kept = λ k e h w.
      subst (λ b. Waits b (tie_of e)) (sym c.advance.ensures)
      (waits_advance c.loop-tie.ties c.in-Some.tie (tie_of e) (sym c.in-Some.ensures) (c.if-is_waiting.ensures.no refl k e h) (c.loop-tie.invariant.kept k e h w));
}
