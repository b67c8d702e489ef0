-- The lines of the first records, some more of them.
use Rattle.std.proofs.Common.{◌≡◌, ℕ, ◌+◌, ◌<◌, ◌≤◌, ◌⊎◌, inl, inr, List, [], ◌∷◌, length, take, drop, ◌++◌, arith, sym, ap, ◌∙◌, append_assoc, append-nil, length-drop}
use Rattle.std.proofs.Math.Nat.{eq-zero-or-pos}
use Rattle.std.proofs.lemmas.List.{take-append-drop, take-take, drop-take, drop-drop}
use Rattle.std.proofs.lemmas.Grind.{flat_map-append}
use Rattle.std.specs.List.{flat_map}

pub take_further : {X : Type 0} (xs : List X) (i n : ℕ) → take (i + n) xs ≡ take i xs ++ take n (drop i xs)
take_further xs i n =
    sym (take-append-drop i (take (i + n) xs))
    ∙ rw (take-take i (i + n) xs (omega arith), drop-take i n xs)

pub flat_map_further :
    {X A : Type 0} (f : X → List A) (before : List A) (xs : List X) (i n : ℕ)
    → (before ++ flat_map f (take i xs)) ++ flat_map f (take n (drop i xs))
    ≡ before ++ flat_map f (take (i + n) xs)
flat_map_further f before xs i n =
    append_assoc before (flat_map f (take i xs)) (flat_map f (take n (drop i xs)))
    ∙ ap
    (λ l. before ++ l)
    (sym (flat_map-append f (take i xs) (take n (drop i xs))) ∙ ap (flat_map f) (sym (take_further xs i n)))

-- where some are left, some are read
pub some_read : {X : Type 0} (xs : List X) (n : ℕ) → (n ≡ 0 → xs ≡ []) → 0 < length xs → 0 < n
some_read xs n none some = by (eq-zero-or-pos n)
  where
    by : (n ≡ 0) ⊎ (0 < n) → 0 < n
    by (inl is) = absurd (omega (arith, some, ap length (none is)))
    by (inr more) = more

-- one more was read
pub read_one : {X : Type 0} (xs ys : List X) (k : ℕ) (x : X) → drop k xs ≡ x ∷ ys →
    (k + 1 ≤ length xs) × (ys ≡ drop (k + 1) xs) × (take (k + 1) xs ≡ take k xs ++ x ∷ [])
read_one xs ys k x is = (
  omega (arith, ap length is, length-drop k xs),
  ap (drop 1) (sym is) ∙ drop-drop 1 k xs,
  take_further xs k 1 ∙ ap (λ l. take k xs ++ take 1 l) is,
)

pub flat_map_one : {X A : Type 0} (f : X → List A) (xs ys : List X) (k : ℕ) (x : X) → drop k xs ≡ x ∷ ys →
    flat_map f (take k xs) ++ f x ≡ flat_map f (take (k + 1) xs)
flat_map_one f xs ys k x is =
    ap (λ l. flat_map f (take k xs) ++ l) (sym (append-nil (f x)))
    ∙ sym (flat_map-append f (take k xs) (x ∷ []))
    ∙ ap (flat_map f) (sym (read_one xs ys k x is).2)
