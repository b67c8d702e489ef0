use Rattle.std.proofs.Common.{arith}
use Rattle.control_words.specs.Text.{words}
use Rattle.control.proofs.Few.{few}
use Rattle.control.proofs.Faults.{blamed}
use Rattle.control.proofs.word_fault.blame.Goals as goal

pub walk-requires : goal.walk-requires
walk-requires c = omega (arith, few c.args.line.now)

pub returns-clause-blamed : goal.returns-clause-blamed
returns-clause-blamed c = blamed c.lines_are_read.ensures c.args.check (words c.args.line.now) c.walk.result c.walk.ensures
