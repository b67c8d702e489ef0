use Rattle.std.proofs.Common.{◌+◌, ◌≤◌, length}
use Rattle.control.specs.Builder.{sofar}
use Rattle.control.proofs.LinesWalk.{Holds}
use Rattle.control.proofs.reading.read_all.Given as goal

abbrev pub invariant-loop-line : goal.invariant-loop-line
invariant-loop-line l = record {
  holds : Holds l.number (sofar l.builder) l.rest l.bytes;
  count : l.number + length l.rest ≤ length l.bytes + 1;
}

abbrev pub decreases-loop-line : goal.decreases-loop-line
decreases-loop-line l = length l.rest
