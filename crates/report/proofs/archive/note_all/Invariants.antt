use Rattle.std.proofs.Common.{◌≡◌, ◌-◌, ◌≤◌, ◌++◌, length, take}
use Rattle.std.specs.List.{All, flat_map}
use Rattle.report.specs.Archive.{entries_of, IsEntry, Stay}
use Rattle.report.specs.Room.{spare}
use Rattle.report.proofs.archive.note_all.Given as goal

abbrev pub invariant-loop-done : goal.invariant-loop-done
invariant-loop-done l = record {
  done : l.done ≤ length l.records;
  records : flat_map (entries_of l.others.items) l.words.items
      ≡ flat_map (entries_of l.initial.others.items) l.initial.words.items ++ take l.done l.records;
  stay : Stay l.initial.others.items l.others.items;
  kept : take (length l.initial.words.items) l.words.items ≡ l.initial.words.items;
  sound : All (IsEntry l.others.items) l.words.items;
  room : length l.records - l.done ≤ spare l.words;
}

abbrev pub decreases-loop-done : goal.decreases-loop-done
decreases-loop-done l = length l.records - l.done
