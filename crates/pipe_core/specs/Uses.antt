-- Sums over lists of keys: the occurrences of one key, and the number of keys.
use Rattle.std.specs.Prelude.{ℕ, ◌+◌, ◌==◌, if◌then◌else◌, List, [], ◌∷◌}

-- the sum of the weights of the keys
unfoldable pub total : (ℕ → ℕ) → List ℕ → ℕ
total weight [] = 0
total weight (x ∷ xs) = weight x + total weight xs

abbrev pub one_at : ℕ → ℕ → ℕ
one_at k key = if key == k then 1 else 0

-- the number of occurrences of a key in a list
abbrev pub uses : ℕ → List ℕ → ℕ
uses k keys = total (one_at k) keys

abbrev pub one : ℕ → ℕ
one key = 1
