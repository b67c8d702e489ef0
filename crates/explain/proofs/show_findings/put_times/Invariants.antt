use Rattle.std.proofs.Common.{◌≡◌, ◌++◌, replicate}
use Rattle.explain.proofs.show_findings.put_times.Given as goal

abbrev pub invariant-loop-count : goal.invariant-loop-count
invariant-loop-count l = l.out.items ≡ l.initial.out.items ++ replicate l._count l.byte
