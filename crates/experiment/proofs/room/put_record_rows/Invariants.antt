use Rattle.std.proofs.Common.{◌≡◌, ◌-◌, ◌≤◌, drop, length, take}
use Rattle.std.specs.Prelude.{flat_map}
use Rattle.report.specs.Rows.{record_bytes}
use Rattle.experiment.specs.Rooms.{IsPutAt}
use Rattle.experiment.proofs.room.put_record_rows.Given as goal

abbrev pub invariant-loop-done : goal.invariant-loop-done
invariant-loop-done l = record {
  done : l.done ≤ length l.records;
  left : l.reader ≡ drop l.done l.records;
  put : IsPutAt (flat_map (record_bytes l.number) (take l.done l.records)) l.at l.initial.room l.room l.end;
  page : length l.page ≡ length l.initial.page;
  room : length l.room ≡ length l.initial.room;
}

abbrev pub decreases-loop-done : goal.decreases-loop-done
decreases-loop-done l = length l.records - l.done
