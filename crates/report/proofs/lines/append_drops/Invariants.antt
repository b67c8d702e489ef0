use Rattle.std.proofs.Common.{◌≡◌, ◌+◌, ◌*◌, ◌≤◌, ◌++◌, take, vec_capacity}
use Rattle.std.specs.List.{flat_map}
use Rattle.report.specs.Lines.{behind_space}
use Rattle.report.specs.Room.{spare}
use Rattle.report.proofs.lines.append_drops.Given as goal

abbrev pub invariant-loop-dropped : goal.invariant-loop-dropped
invariant-loop-dropped l = record {
  items : l.out.items ≡ l.initial.out.items ++ flat_map behind_space (take l.dropped-index l.drops);
  capacity : vec_capacity l.initial.out ≤ vec_capacity l.out;
  room : spare l.initial.out ≤ spare l.out + 21 * l.dropped-index;
}
