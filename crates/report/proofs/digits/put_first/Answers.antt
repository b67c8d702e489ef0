use Rattle.std.proofs.Common.{arith}
use Rattle.std.proofs.lemmas.Fmt.{decimal_digit}
use Rattle.std.proofs.lemmas.List.{take_more_set}
use Rattle.itoa.proofs.Decimal.{decimal_two}
use Rattle.report.proofs.digits.put_first.Goals as goal

pub returns-then-number-lt10-clause-items : goal.returns-then-number-lt10-clause-items
returns-then-number-lt10-clause-items c =
    rw (take_more_set c.args.text.now c.args.at _ (omega arith), decimal_digit c.args.number c.if-number-lt10.true)

pub returns-clause-items : goal.returns-clause-items
returns-clause-items c = rw (c.put_pair.ensures, decimal_two c.args.number c.if-number-lt10.false c.requires.0)
