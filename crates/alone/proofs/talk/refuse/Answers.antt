use Rattle.std.proofs.Common.{ℕ, List, ◌++◌, sym, ap, ◌∙◌, append_assoc, append-nil, subst}
use Rattle.session.specs.declared.answer.Answer.TheVariants as answers
use Rattle.session.specs.Lines.{answer_line, comment_of}
use Rattle.alone.proofs.talk.refuse.Goals as goal

pub returns-clause-says : goal.returns-clause-says
returns-clause-says g c =
    let text : List ℕ = c.as_slice.result.now in
    let out : List ℕ = c.args.out.now.items in
    let line : List ℕ = answer_line (answers.Fault c.args.cause) in (
      text,
      subst (λ (l : List ℕ). g.H.Hints.may_say c.args.hints.now c.args.line.now c.args.cause l) (sym c.as_slice.ensures.value) c.in-Ok.ensures,
      c.in-Ok-put_answer.ensures ∙ ap (λ (l : List ℕ). l ++ line) c.in-Ok-put_comment.ensures
          ∙ append_assoc out (comment_of text) line ∙ ap (λ (l : List ℕ). out ++ (comment_of text ++ l)) (sym (append-nil line)),
    )
