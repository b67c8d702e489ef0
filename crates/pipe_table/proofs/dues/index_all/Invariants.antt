use Rattle.std.proofs.Common.{◌+◌, ◌≤◌, length, take}
use Rattle.pipe_table.specs.Leaves.{AreIndexed}
use Rattle.pipe_table.proofs.dues.index_all.Given as goal

abbrev pub invariant-loop-pipe : goal.invariant-loop-pipe
invariant-loop-pipe l = record {
  indexed : AreIndexed (take l.pipe-index l.pipes) l.dues;
  room : length l.pipes ≤ l.pipe-index + l.dues.spare;
}
