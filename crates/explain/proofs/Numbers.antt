-- Lines by their numbers, from one line to the next.
use Rattle.std.proofs.Common.{◌≡◌, ℕ, ◌+◌, List, ◌∷◌, ap, ◌∙◌, arith}
use Rattle.std.proofs.lemmas.Bool.Decides.{nat_tests}
use Rattle.explain.specs.Lines.{nth_line}

nth_next : (k : ℕ) (l : List ℕ) (ls : List (List ℕ)) → nth_line (k + 1 + 1) (l ∷ ls) ≡ nth_line (k + 1) ls
nth_next k l ls = grind (arith, nat_tests)

-- behind a line, each place is that of the line before, and one more
pub places_next : (text rest after : List (List ℕ)) (number : ℕ) (line : List ℕ) → ((k : ℕ) → nth_line (number + k) text ≡ nth_line (k + 1) rest) → rest ≡ line ∷ after → (k : ℕ) → nth_line (number + 1 + k) text ≡ nth_line (k + 1) after
places_next text rest after number line places is k =
    let there : number + 1 + k ≡ number + (k + 1) = omega arith in
    ap (λ n. nth_line n text) there ∙ places (k + 1) ∙ ap (nth_line (k + 1 + 1)) is ∙ nth_next k line after
