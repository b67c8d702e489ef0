use Rattle.std.proofs.Common.{◌≡◌, ◌++◌, length}
use Rattle.session.specs.Lines.{comment_of}
use Rattle.session.proofs.answer.put_comment.Given as goal

abbrev pub invariant-loop-line : goal.invariant-loop-line
invariant-loop-line l = l.out.items ++ comment_of l.rest ≡ l.initial.out.items ++ comment_of l.text

abbrev pub decreases-loop-line : goal.decreases-loop-line
decreases-loop-line l = length l.rest
