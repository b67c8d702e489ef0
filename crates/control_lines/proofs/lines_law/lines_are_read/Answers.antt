use Rattle.control_lines.proofs.LineLaw.{line_found, line_again}
use Rattle.control_lines.proofs.lines_law.lines_are_read.Goals as goal

pub returns : goal.returns
returns c = λ ws l. (line_found (c.options_are_read.ensures.pipe, c.options_are_read.ensures.flow) ws l, line_again (c.options_are_read.ensures.pipe, c.options_are_read.ensures.flow) ws l)
