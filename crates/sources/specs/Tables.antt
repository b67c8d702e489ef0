-- Tables that map a number to the place of the source that has it.
use Rattle.std.specs.Prelude.{◌≡◌, ℕ, ◌==◌, Option, List, position}
use Rattle.due_index.specs.Table.{place_in}

-- the table maps each number to the place of the first element that has it, if any
abbrev pub LeadsTo : {X : Type 0} → (X → ℕ) → List X → List (Option ℕ) → Type 0
LeadsTo number xs table = (k : ℕ) → place_in table k ≡ position (λ x. number x == k) xs
