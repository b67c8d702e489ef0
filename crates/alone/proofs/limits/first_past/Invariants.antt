use Rattle.std.proofs.Common.{◌≤◌, take}
use Rattle.alone.specs.Within.{steps_of}
use Rattle.alone.proofs.limits.first_past.Given as goal

abbrev pub invariant-loop-number : goal.invariant-loop-number
invariant-loop-number l = record {
  before : steps_of (take l.number l.scripts) ≤ l.most;
}
