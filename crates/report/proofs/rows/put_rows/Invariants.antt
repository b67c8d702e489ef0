use Rattle.std.proofs.Common.{◌≡◌, ◌-◌, ◌*◌, ◌≤◌, drop, length, take}
use Rattle.std.specs.List.{flat_map}
use Rattle.report.specs.Rows.{record_bytes}
use Rattle.report.proofs.rows.put_rows.Given as goal

abbrev pub invariant-loop-done : goal.invariant-loop-done
invariant-loop-done l = record {
  few : l.done ≤ l.most;
  inside : l.done ≤ length l.initial.records;
  left : l.records ≡ drop l.done l.initial.records;
  room : l.most * 40 ≤ length l.page;
  same : length l.page ≡ length l.initial.page;
  rows : take (l.done * 40) l.page ≡ flat_map (record_bytes l.experiment) (take l.done l.initial.records);
}

abbrev pub decreases-loop-done : goal.decreases-loop-done
decreases-loop-done l = l.most - l.done
