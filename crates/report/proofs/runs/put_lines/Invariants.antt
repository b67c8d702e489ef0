use Rattle.std.proofs.Common.{◌≡◌, ◌-◌, ◌*◌, ◌≤◌, drop, length, take}
use Rattle.std.specs.List.{flat_map}
use Rattle.report.specs.Lines.{line_of}
use Rattle.report.proofs.runs.put_lines.Given as goal

abbrev pub invariant-loop-end : goal.invariant-loop-end
invariant-loop-end g l = record {
  count : l.count ≤ length (g.S.Source.list l.initial.source);
  left : g.S.Source.list l.source ≡ drop l.count (g.S.Source.list l.initial.source);
  page : l.end ≤ 4224;
  room : l.end ≤ 128 * l.count;
  items : take l.end l.moments.page ≡ flat_map line_of (take l.count (g.S.Source.list l.initial.source));
}

abbrev pub decreases-loop-end : goal.decreases-loop-end
decreases-loop-end g l = length (g.S.Source.list l.initial.source) - l.count
