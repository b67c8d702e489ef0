use Rattle.std.proofs.Common.{◌≡◌, ◌-◌, ◌*◌, ◌/◌, ◌%◌, arith, append_assoc}
use Rattle.itoa.proofs.Decimal.{decimal_four}
use Rattle.report.proofs.digits.put_middle.Goals as goal

pub returns-clause-items : goal.returns-clause-items
returns-clause-items c =
    let n = c.args.number in
    let low : n - n / 10000 * 10000 ≡ n % 10000 = omega arith in
    rw (c.put_four.ensures, c.put_short-end.ensures.items, low, decimal_four n c.if-number-lt10000.false (omega arith), append_assoc)
