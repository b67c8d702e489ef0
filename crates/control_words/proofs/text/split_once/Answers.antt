use Rattle.std.proofs.Common.{◌∷◌, sym, ap₂, ◌∙◌, eqb, List, ℕ}
use Rattle.control_words.specs.Text.{parts}
use Rattle.control_words.proofs.Split.{first_part, no_part}
use Rattle.control_words.proofs.text.split_once.Goals as goal

pub returns-in_err-end-clause-value : goal.returns-in_err-end-clause-value
returns-in_err-end-clause-value c = rw c.from_residual.ensures (no_part (λ b. eqb b c.args.separator) c.args.bytes.now (sym c.in_err-end.ensures))

pub returns-clause-value : goal.returns-clause-value
returns-clause-value c =
    first_part (λ b. eqb b c.args.separator) c.args.bytes.now c.in_ok-end.end (sym c.in_ok-end.ensures)
    ∙ ap₂ (λ (l r : List ℕ). l ∷ parts c.args.separator r) (sym c.around.ensures.before) (sym c.around.ensures.behind)
