use Rattle.std.proofs.Common.{◌-◌, ◌++◌, arith, ap, sym, ◌∙◌}
use Rattle.report.specs.Words.{eight_of}
use Rattle.report.proofs.Kept.{front_stays, alike_stays}
use Rattle.report.proofs.clock.Clock.turn.Goals as goal

pub overflow_sub-moment : goal.overflow_sub-moment
overflow_sub-moment c = (c.self.invariant.3 c.args.moment (omega arith) (omega arith)).0

pub overflow_cast-moment : goal.overflow_cast-moment
overflow_cast-moment c =
    let near = (c.self.invariant.3 c.args.moment (omega arith) (omega arith)).1 in
    omega arith

pub put_eight-requires : goal.put_eight-requires
put_eight-requires c =
    ((c.self.invariant.3 c.args.moment (omega arith) (omega arith)).1, omega arith)

pub invariant_of-self : goal.invariant_of-self
invariant_of-self c =
    let kept = c.self.inside in
    let put = c.put_eight.ensures in
    let stays = front_stays kept.digits c.put_eight.new.text _ (omega arith) put in (
      c.self.invariant.0,
      omega arith,
      omega arith,
      alike_stays kept.first kept.last kept.base kept.start _ _ stays c.self.invariant.3,
      put ∙ ap (λ l. l ++ eight_of (c.args.moment - kept.base)) (sym stays),
    )
