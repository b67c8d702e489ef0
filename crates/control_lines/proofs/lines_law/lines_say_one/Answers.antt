use Rattle.control_lines.proofs.LineEntries.{says_one}
use Rattle.control_lines.proofs.lines_law.lines_say_one.Goals as goal

pub returns : goal.returns
returns c = says_one (c.options_are_read.ensures.pipe, c.options_are_read.ensures.flow)
