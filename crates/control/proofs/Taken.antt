-- Words that are taken one after the other.
use Rattle.std.proofs.Common.{◌≡◌, ℕ, ◌+◌, ◌<◌, ◌≤◌, List, [], ◌∷◌, length, drop, Option, Some, None, ap, ◌∙◌, arith, length-drop}
use Rattle.std.proofs.lemmas.List.{drop-drop}
use Rattle.control_words.specs.Words.{Words, next}

abbrev taken : List ℕ → Words → Option (List ℕ × Words)
taken w ws = Some (w, ws)

some_left : (ws old new : Words) (i : ℕ) (w : List ℕ) → old ≡ drop i ws → taken w new ≡ next old → i < length ws
some_left ws [] new i w left e = absurd cc
some_left ws (v ∷ old) new i w left e = omega (arith, length-drop i ws, ap length left)

-- one more was taken
pub more : (ws old new : Words) (i : ℕ) (w : List ℕ) → old ≡ drop i ws → taken w new ≡ next old → new ≡ drop 1 old → (new ≡ drop (i + 1) ws) × (i < length ws)
more ws old new i w left e rest = (rest ∙ ap (λ (x : Words). drop 1 x) left ∙ drop-drop 1 i ws, some_left ws old new i w left e)

-- none was left
pub none : (ws old : Words) (i : ℕ) → old ≡ drop i ws → None ≡ next old → length ws ≤ i
none ws [] i left e = omega (arith, length-drop i ws, ap length left)
none ws (v ∷ old) i left e = absurd cc
