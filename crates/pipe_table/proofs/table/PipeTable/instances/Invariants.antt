use Rattle.std.proofs.Common.{◌≡◌, ◌*◌, ◌≤◌, length, take}
use Rattle.std.specs.List.{sum_by}
use Rattle.pipe_core.specs.Keyed.{KeyedPipe}
use Rattle.pipe_table.proofs.table.PipeTable.instances.Given as goal

abbrev pub invariant-loop-pipe : goal.invariant-loop-pipe
invariant-loop-pipe l = record {
  sum : l.instances ≡ sum_by (λ (p : KeyedPipe). length p.slots) (take l.pipe-index l.fn.self.pipes);
  few : l.instances ≤ 256 * l.pipe-index;
}
