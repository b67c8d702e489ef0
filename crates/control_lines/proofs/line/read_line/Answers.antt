use Rattle.control_lines.specs.Entries.{view_entry}
use Rattle.control_lines.proofs.LineEntries.{read_is}
use Rattle.control_lines.proofs.line.read_line.Goals as goal

pub returns : goal.returns
returns c = read_is (c.options_are_read.ensures.pipe, c.options_are_read.ensures.flow) view_entry c.args.line.now c.entry.result c.entry.ensures
