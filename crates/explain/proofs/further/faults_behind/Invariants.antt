use Rattle.std.proofs.Common.{◌≡◌, ◌≤◌, vec_len}
use Rattle.control_words.specs.Text.{lines}
use Rattle.explain.specs.Further.{AreTold}
use Rattle.explain.proofs.FurtherFaults.{last_line}
use Rattle.explain.proofs.further.faults_behind.Given as goal

-- those so far are told, each behind the one before, and of the last the next is looked for
abbrev pub invariant-loop-count : goal.invariant-loop-count
invariant-loop-count l = record {
  told : AreTold (lines l.text) l.first.line l.out.items;
  last : last_line l.first.line l.out.items ≡ l.last.line;
  few : vec_len l.out ≤ l._count;
}
