use Rattle.std.proofs.Common.{◌≡◌, ◌-◌, ◌≤◌, length, take}
use Rattle.experiment.specs.Rooms.{IsPutAt}
use Rattle.experiment.specs.Written.{texts_of}
use Rattle.experiment.proofs.room.put_reports.Given as goal

abbrev pub invariant-loop-done : goal.invariant-loop-done
invariant-loop-done l = record {
  done : l.done ≤ length l.reports;
  put : IsPutAt (texts_of (take l.done l.reports)) 0 l.initial.room l.room l.end;
  room : length l.room ≡ length l.initial.room;
}

abbrev pub decreases-loop-done : goal.decreases-loop-done
decreases-loop-done l = length l.reports - l.done
