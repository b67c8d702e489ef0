use Rattle.std.proofs.Common.{arith}
use Rattle.report.proofs.Pairs.{pairs_at}
use Rattle.report.proofs.Behind.{two_put}
use Rattle.report.proofs.digits.put_pair.Goals as goal

pub returns : goal.returns
returns c =
    let p = pairs_at c.args.pair c.requires.0 in
    rw (p.0, p.1) (two_put c.args.text.now c.args.at _ _ (omega arith))
