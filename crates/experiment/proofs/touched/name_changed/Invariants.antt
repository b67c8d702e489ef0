use Rattle.std.proofs.Common.{◌+◌, ◌-◌, ◌≤◌, length, vec_len, vec_capacity}
use Rattle.experiment.specs.Dues.{NamesUpTo}
use Rattle.experiment.proofs.touched.name_changed.Given as goal

abbrev pub invariant-loop-i : goal.invariant-loop-i
invariant-loop-i l = record {
  in_old : l.i ≤ length l.old;
  in_new : l.j ≤ length l.new;
  names : NamesUpTo l.i l.j l.old l.new l.sources.items;
  room : vec_len l.sources ≤ l.i + l.j;
  capacity : length l.old + length l.new ≤ vec_capacity l.sources;
}

abbrev pub decreases-loop-i : goal.decreases-loop-i
decreases-loop-i l = length l.old + length l.new - (l.i + l.j)

abbrev pub invariant-loop-i-2 : goal.invariant-loop-i-2
invariant-loop-i-2 l = record {
  in_old : l.i ≤ length l.old;
  in_new : l.j ≤ length l.new;
  names : NamesUpTo l.i l.j l.old l.new l.sources.items;
  room : vec_len l.sources ≤ l.i + l.j;
  capacity : length l.old + length l.new ≤ vec_capacity l.sources;
}

abbrev pub decreases-loop-i-2 : goal.decreases-loop-i-2
decreases-loop-i-2 l = length l.old - l.i

abbrev pub invariant-loop-j : goal.invariant-loop-j
invariant-loop-j l = record {
  all_old : length l.old ≤ l.i;
  in_new : l.j ≤ length l.new;
  names : NamesUpTo l.i l.j l.old l.new l.sources.items;
  room : vec_len l.sources ≤ length l.old + l.j;
  capacity : length l.old + length l.new ≤ vec_capacity l.sources;
}

abbrev pub decreases-loop-j : goal.decreases-loop-j
decreases-loop-j l = length l.new - l.j
