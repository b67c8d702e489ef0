use Rattle.std.proofs.Common.{◌≡◌, sym, ◌∙◌}
use Rattle.timer_wheel.specs.Stocks.{due_of}
use Rattle.timer_wheel.proofs.WheelFacts.{above_same}
use Rattle.timer_wheel.proofs.wheel.WheelAgenda.move_to_least.Goals as goal

pub invariant_of-self : goal.invariant_of-self
invariant_of-self c = c.in_err-entry.ensures.none.wheel

pub invariant_of-self-2 : goal.invariant_of-self-2
invariant_of-self-2 c =
    let t = c.in_ok-entry.ensures.some in
    record {
      placed = t.placed;
      rising = t.rising;
      low = above_same (due_of c.self.inside.stock) (due_of c.least.new.stock) c.in_ok-entry.entry t.least t.rows;
      small = λ o s d is. c.self.invariant.small o s d (sym (t.rows o s) ∙ is);
    }
