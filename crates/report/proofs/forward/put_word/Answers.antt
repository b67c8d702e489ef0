use Rattle.std.proofs.Common.{arith}
use Rattle.report.proofs.Behind.{first_put}
use Rattle.report.proofs.forward.put_word.Goals as goal

pub returns-clause-items : goal.returns-clause-items
returns-clause-items c =
    first_put c.args.text.now c.put_bytes.new.text c.args.word.now c.args.at 8 c.args.count (omega arith) (omega arith) c.put_bytes.ensures
