-- A text as comments.
use Rattle.std.proofs.Common.{◌≡◌, ℕ, List, [], ◌∷◌, ◌++◌, sym, ap, ◌∙◌}
use Rattle.control.proofs.Joining.{some_line}
use Rattle.control_words.specs.Text.{lines}
use Rattle.session.specs.Lines.{comment_line, comments}

before-more : (line : List ℕ) (ls : List (List ℕ)) (m : List ℕ) (ms : List (List ℕ)) → ls ≡ m ∷ ms → comments (line ∷ ls) ≡ comment_line line ++ comments ls
before-more [] ls m ms is = ap (λ (l : List (List ℕ)). comments ([] ∷ l)) is ∙ ap (λ (l : List (List ℕ)). comment_line [] ++ comments l) (sym is)
before-more (c ∷ cs) ls m ms is = ap (λ (l : List (List ℕ)). comments ((c ∷ cs) ∷ l)) is ∙ ap (λ (l : List (List ℕ)). comment_line (c ∷ cs) ++ comments l) (sym is)

-- a line with its line feed
pub comments-more : (line after : List ℕ) → comments (line ∷ lines after) ≡ comment_line line ++ comments (lines after)
comments-more line after = let l = some_line after in before-more line (lines after) l.0 l.1 l.2
