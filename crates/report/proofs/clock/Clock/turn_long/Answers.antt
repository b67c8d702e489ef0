use Rattle.std.proofs.Common.{◌-◌, ◌*◌, ◌/◌, ◌++◌, rules, arith, ap, sym, ◌∙◌}
use Rattle.std.proofs.lemmas.Fmt.{length-decimal-le}
use Rattle.report.specs.Words.{eight_of}
use Rattle.report.proofs.Kept.{front_stays, alike_stays, alike_long}
use Rattle.report.proofs.clock.Clock.turn_long.Goals as goal

pub write_digits-self-inside-requires : goal.write_digits-self-inside-requires
write_digits-self-inside-requires c =
    (length-decimal-le 16 (c.args.moment / 100000000) (omega arith) (omega arith) (omega arith), search rules)

pub invariant_of-self : goal.invariant_of-self
invariant_of-self c =
    let digits = c.write_digits-self-inside in
    let put = c.put_eight.ensures in
    let high = c.args.moment / 100000000 in
    let last = c.saturating_add-self-inside.result in
    let stays = front_stays digits.new.buf c.put_eight.new.text _ (omega arith) put in
    let alike =
    alike_long high last digits.result digits.new.buf _ (omega arith) (omega arith) (omega arith) (omega arith) digits.ensures.start digits.ensures.written
    in (
      omega arith,
      omega arith,
      omega arith,
      alike_stays (high * 100000000) last (high * 100000000) digits.result _ _ stays alike,
      put ∙ ap (λ l. l ++ eight_of (c.args.moment - high * 100000000)) (sym stays),
    )
