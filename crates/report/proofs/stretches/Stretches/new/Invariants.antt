use Rattle.std.proofs.Common.{◌≡◌, ◌-◌, ◌≤◌, drop, length}
use Rattle.report.specs.Orders.{in_order}
use Rattle.report.proofs.stretches.Stretches.new.Given as goal

abbrev pub invariant-loop-next : goal.invariant-loop-next
invariant-loop-next l = record {
  few : l.next ≤ length l.runs;
  same : in_order (drop l.next l.runs) l.tail l.stored ≡ in_order l.runs l.tail l.stored;
}

abbrev pub decreases-loop-next : goal.decreases-loop-next
decreases-loop-next l = length l.runs - l.next
