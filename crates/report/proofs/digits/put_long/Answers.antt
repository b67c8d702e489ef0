use Rattle.std.proofs.Common.{arith, append_assoc}
use Rattle.report.proofs.Pairs.{decimal_eight}
use Rattle.report.proofs.digits.put_long.Goals as goal

pub returns-clause-items : goal.returns-clause-items
returns-clause-items c =
    rw (c.put_eight.ensures, c.put_high-end.ensures.items, decimal_eight c.args.number (omega arith) (omega arith))
    (simp append_assoc)
