use Rattle.std.proofs.Common.{◌≡◌, ◌+◌, ◌*◌, ◌≤◌, ◌++◌, drop, length, take, vec_capacity}
use Rattle.std.proofs.Common.{ℕ}
use Rattle.std.specs.List.{flat_map}
use Rattle.report.specs.Lines.{line_of}
use Rattle.report.specs.Room.{spare}
use Rattle.report.proofs.runs.write_source.Given as goal

abbrev pub invariant-loop-count : goal.invariant-loop-count
invariant-loop-count g l = record {
  items : (done : ℕ) × (done ≤ length (g.S.Source.list l.initial.source))
      × (g.S.Source.list l.source ≡ drop done (g.S.Source.list l.initial.source))
      × (l.out.items ≡ l.initial.out.items ++ flat_map line_of (take done (g.S.Source.list l.initial.source)))
      × (spare l.initial.out ≤ spare l.out + 400 * done);
  capacity : vec_capacity l.initial.out ≤ vec_capacity l.out;
}

abbrev pub decreases-loop-count : goal.decreases-loop-count
decreases-loop-count g l = length (g.S.Source.list l.source)
