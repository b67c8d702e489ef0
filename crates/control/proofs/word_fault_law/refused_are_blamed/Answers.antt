use Rattle.control.proofs.Refused.{refused}
use Rattle.control.proofs.word_fault_law.refused_are_blamed.Goals as goal

pub returns : goal.returns
returns c = refused c.lines_are_read.ensures
