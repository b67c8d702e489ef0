use Rattle.std.proofs.Common.{ℕ, List, ◌++◌, sym, ap, ◌∙◌, append_assoc}
use Rattle.session.specs.Lines.{comment_line, comments, comment_of}
use Rattle.session.proofs.CommentFacts.{comments-more}
use Rattle.session.proofs.answer.put_comment.Goals as goal

pub loop-line-preserved : goal.loop-line-preserved
loop-line-preserved c =
    let line : List ℕ = c.in-Some.line.now in
    let after : List ℕ = c.in-Some.after.now in
    let out : List ℕ = c.loop-line.out.items in
    ap (λ (l : List ℕ). l ++ comment_of after) c.in_ok-put_comment_line.ensures
    ∙ append_assoc out (comment_line line) (comment_of after)
    ∙ ap (λ (l : List ℕ). out ++ l) (sym (comments-more line after) ∙ ap comments (sym c.in-Some.ensures.value))
    ∙ c.loop-line.invariant
