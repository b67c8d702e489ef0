use Rattle.std.proofs.Common.{◌≡◌, ◌-◌, ◌++◌, take, arith, ap₂, sym, ◌∙◌}
use Rattle.std.proofs.lemmas.List.{length-take-le}
use Rattle.report.specs.Words.{eight_of}
use Rattle.report.proofs.Kept.{front_stays}
use Rattle.report.proofs.clock.Clock.turn_short.Goals as goal

pub invariant_of-self : goal.invariant_of-self
invariant_of-self c =
    let put = c.put_eight.ensures in
    let stays = front_stays c.self.inside.digits c.put_eight.new.text _ (omega arith) put in
    let whole : c.args.moment - 0 ≡ c.args.moment = omega arith in (
      omega arith,
      omega arith,
      omega arith,
      c.as_long-first.ensures.alike (take 16 c.put_eight.new.text) (length-take-le 16 c.put_eight.new.text (omega arith)),
      put ∙ ap₂ (λ l n. l ++ eight_of n) (sym stays) (sym whole),
    )
