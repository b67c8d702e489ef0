use Rattle.std.proofs.Common.{◌≡◌, ◌-◌, ◌≤◌, ◌++◌, drop}
use Rattle.std.specs.List.{All, flat_map}
use Rattle.report.specs.Archive.{IsEntry, IsLeft, entries_of, left_of}
use Rattle.report.proofs.reader.nth.Given as goal

abbrev pub invariant-loop-done : goal.invariant-loop-done
invariant-loop-done l = record {
  few : l.done ≤ l.place;
  words : All (IsEntry l.others) l.left;
  rest : IsLeft l.others l.rest;
  records : left_of l.others l.rest ++ flat_map (entries_of l.others) l.left ≡ drop l.done (flat_map (entries_of l.others) l.fn.words);
}

abbrev pub decreases-loop-done : goal.decreases-loop-done
decreases-loop-done l = l.place - l.done
