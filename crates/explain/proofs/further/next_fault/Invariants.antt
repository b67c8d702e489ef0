use Rattle.std.proofs.Common.{◌≡◌, ℕ, ◌+◌, length, drop}
use Rattle.control_words.specs.Text.{lines}
use Rattle.explain.specs.Lines.{nth_line}
use Rattle.explain.proofs.further.next_fault.Given as goal

-- what is left are the lines behind so many
abbrev pub invariant-loop-line : goal.invariant-loop-line
invariant-loop-line l = record {
  left : lines l.rest ≡ drop l.before (lines l.text);
  places : (k : ℕ) → nth_line (l.before + 1 + k) (lines l.text) ≡ nth_line (k + 1) (lines l.rest);
}

abbrev pub decreases-loop-line : goal.decreases-loop-line
decreases-loop-line l = length l.rest
