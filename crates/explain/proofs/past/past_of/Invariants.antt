use Rattle.std.proofs.Common.{◌≡◌, ℕ, ◌+◌, length}
use Rattle.control_words.specs.Text.{lines}
use Rattle.explain.specs.Lines.{nth_line}
use Rattle.explain.specs.Past.{IsPastOf}
use Rattle.explain.proofs.past.past_of.Given as goal

-- the lines that are left, by their numbers
abbrev pub invariant-loop-line : goal.invariant-loop-line
invariant-loop-line l = record {
  places : (k : ℕ) → nth_line (l.number + k) (lines l.text) ≡ nth_line (k + 1) (lines l.rest);
  past : IsPastOf (lines l.text) l.before l.past;
}

abbrev pub decreases-loop-line : goal.decreases-loop-line
decreases-loop-line l = length l.rest
