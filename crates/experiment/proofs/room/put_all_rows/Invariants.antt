use Rattle.std.proofs.Common.{◌≡◌, length, take}
use Rattle.experiment.specs.Rooms.{IsPutAt}
use Rattle.experiment.specs.Written.{rows_from}
use Rattle.experiment.proofs.room.put_all_rows.Given as goal

abbrev pub invariant-loop-number : goal.invariant-loop-number
invariant-loop-number l = record {
  page : length l.page ≡ length l.initial.page;
  put : IsPutAt (rows_from 0 (take l.number l.reports)) l.at l.initial.room l.room l.end;
  room : length l.room ≡ length l.initial.room;
}
