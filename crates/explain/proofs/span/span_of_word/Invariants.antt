use Rattle.std.proofs.Common.{drop}
use Rattle.control_words.specs.Text.{words}
use Rattle.explain.proofs.FrontWords.{IsLeft}
use Rattle.explain.proofs.span.span_of_word.Given as goal

abbrev pub invariant-loop-count : goal.invariant-loop-count
invariant-loop-count l = IsLeft l.line l.start (drop l._count (words l.line))
