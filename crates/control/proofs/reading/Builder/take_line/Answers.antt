use Rattle.std.proofs.Common.{sym, inl}
use Rattle.control_lines.specs.Entries.{view_entry}
use Rattle.control.specs.Builder.{sofar}
use Rattle.control.proofs.LinesWalk.{taken_by}
use Rattle.control.proofs.Ranged.{says-named}
use Rattle.control.proofs.reading.Builder.take_line.Goals as goal

pub take_entry-requires : goal.take_entry-requires
take_entry-requires c = says-named c.args.line.now (view_entry c.in-Ok.entry) c.in-Ok.ensures.says

pub returns-in-Ok : goal.returns-in-Ok
returns-in-Ok c = taken_by (sofar c.args.self.now) (sofar c.take_entry.new.self) c.args.line.now (view_entry c.in-Ok.entry) c.take_entry.result c.in-Ok.ensures c.take_entry.ensures.step c.take_entry.ensures.grows

pub returns-in-Err : goal.returns-in-Err
returns-in-Err c = inl (c.in-Err.fault, c.in-Err.ensures, sym c.in_line.ensures)
