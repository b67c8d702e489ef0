use Rattle.std.proofs.Common.{◌≡◌, ◌*◌, ◌≤◌, take}
use Rattle.pipe_table.proofs.LineFacts.{lines_of}
use Rattle.pipe_table.proofs.table.PipeTable.lines.Given as goal

abbrev pub invariant-loop-pipe : goal.invariant-loop-pipe
invariant-loop-pipe l = (l.lines ≡ lines_of (take l.pipe-index l.fn.self.pipes)) × (l.lines ≤ 257 * l.pipe-index)
