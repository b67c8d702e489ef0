use Rattle.std.proofs.Common.{◌≡◌, length}
use Rattle.control_words.specs.Text.{lines}
use Rattle.explain.specs.Lines.{nth_line}
use Rattle.explain.proofs.span.line_at.Given as goal

-- the line that is looked for is that of what is left
abbrev pub invariant-loop-line : goal.invariant-loop-line
invariant-loop-line l = nth_line l.left (lines l.rest) ≡ nth_line l.fn.number (lines l.fn.text)

abbrev pub decreases-loop-line : goal.decreases-loop-line
decreases-loop-line l = length l.rest
