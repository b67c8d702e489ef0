-- What is found at a place of a list that is read from its front.
use Rattle.std.proofs.Common.{◌≡◌, ℕ, zero, suc, ◌≤◌, List, [], ◌∷◌, length, drop, refl, ap, arith}
use Rattle.std.specs.Prelude.{None, Some, slice_get}

pub read_at : {X : Type 0} (xs ys : List X) (i : ℕ) (x : X) → drop i xs ≡ x ∷ ys → slice_get xs i ≡ Some x
read_at [] ys zero x is = absurd (omega (arith, ap length is))
read_at [] ys (suc i) x is = absurd (omega (arith, ap length is))
read_at (y ∷ xs) ys zero x is = ap (λ l. slice_get l 0) is
read_at (y ∷ xs) ys (suc i) x is = read_at xs ys i x is

pub none_at : {X : Type 0} (xs : List X) (i place : ℕ) → drop i xs ≡ [] → i ≤ place → slice_get xs place ≡ None
none_at [] i place is few = refl
none_at (x ∷ xs) zero place is few = absurd (omega (arith, ap length is))
none_at (x ∷ xs) (suc i) zero is few = absurd (omega (arith, few))
none_at (x ∷ xs) (suc i) (suc place) is few = none_at xs i place is (omega (arith, few))
