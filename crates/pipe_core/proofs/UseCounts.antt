-- How often a key stands in lists.
use Rattle.std.proofs.Common.{◌≡◌, ℕ, ◌+◌, ◌<◌, nat_eq, cond, refl, ap, List, [], ◌∷◌, ◌++◌, map, length, true, arith}
use Rattle.std.proofs.lemmas.Bool.Decides.{nat_tests}
use Rattle.pipe_core.specs.Uses.{total, uses, one_at, one}

pub total-nil : (g : ℕ → ℕ) → total g [] ≡ 0
unfolding total
total-nil g = refl

pub total-cons : (g : ℕ → ℕ) (x : ℕ) (xs : List ℕ) → total g (x ∷ xs) ≡ g x + total g xs
unfolding total
total-cons g x xs = refl

pub total-append : (g : ℕ → ℕ) (xs ys : List ℕ) → total g (xs ++ ys) ≡ total g xs + total g ys
total-append g [] ys = omega (arith, total-nil g)
total-append g (x ∷ xs) ys =
    omega (arith, total-cons g x (xs ++ ys), total-cons g x xs, total-append g xs ys)

pub total-one : (g : ℕ → ℕ) (x : ℕ) → total g (x ∷ []) ≡ g x
total-one g x = omega (arith, total-cons g x [], total-nil g)

pub total-length : (xs : List ℕ) → total one xs ≡ length xs
total-length [] = total-nil one
total-length (x ∷ xs) = omega (arith, total-cons one x xs, total-length xs)

pub one_at-same : (k : ℕ) → one_at k k ≡ 1
one_at-same k =
    let same : nat_eq k k ≡ true = grind (arith, nat_tests) in ap {B = ℕ} (λ b. cond b 1 0) same

-- three lists after each other, as an instance's keys are
pub total-three : (g : ℕ → ℕ) (xs ys zs : List ℕ) →
    total g (xs ++ ys ++ zs) ≡ total g xs + total g ys + total g zs
total-three g xs ys zs = omega (arith, total-append g (xs ++ ys) zs, total-append g xs ys)

-- functions that agree on the keys of a list map it alike
pub map-agree : {A B : Type 0} (key : A → ℕ) (f g : A → B) (xs : List A) →
    ((k : ℕ) (x : A) → 0 < uses k (map key xs) → key x ≡ k → g x ≡ f x) → map g xs ≡ map f xs
map-agree key f g [] same = refl
map-agree {A} key f g (x ∷ xs) same =
    let here : g x ≡ f x =
    same (key x) x (omega (arith, total-cons (one_at (key x)) (key x) (map key xs), one_at-same (key x))) refl in
    λ i. here i ∷ map-agree key f g xs (λ k y within is. same k y (omega (arith, total-cons (one_at k) (key x) (map key xs), within)) is) i
