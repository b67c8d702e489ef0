use Rattle.std.proofs.Common.{◌≡◌, ◌++◌, length, map, take, drop}
use Rattle.pipe_core.specs.Leaves.{slot_due}
use Rattle.pipe_core.proofs.pipe.index_all.Given as goal

-- the dues so far are set
abbrev pub invariant-loop-instance : goal.invariant-loop-instance
invariant-loop-instance l = record {
  is : l.dues ≡ record l.initial.dues {
    leaves = take l.instance (map slot_due l.slots) ++ drop l.instance l.initial.dues.leaves;
  };
  long : length l.dues.leaves ≡ length l.slots;
}
