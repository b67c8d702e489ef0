use Rattle.std.proofs.Common.{◌≡◌, ◌-◌, ◌*◌, ◌/◌, ◌%◌, arith, append_assoc}
use Rattle.itoa.proofs.Decimal.{decimal_pair}
use Rattle.report.proofs.digits.put_short.Goals as goal

pub returns-clause-items : goal.returns-clause-items
returns-clause-items c =
    let n = c.args.number in
    let low : n - n / 100 * 100 ≡ n % 100 = omega arith in
    rw (c.put_pair.ensures, c.put_first-end.ensures.items, c.hundreds-high.ensures, low, decimal_pair n c.if-number-lt100.false (omega arith), append_assoc)
