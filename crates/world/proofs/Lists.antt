-- A place of a list, a name in a list.
use Rattle.std.proofs.Common.{zero, suc, ◌≡◌, ◌≢◌, ℕ, ◌+◌, ◌<◌, cond, List, [], ◌∷◌, ◌++◌, length, get_or, set, Some, refl, sym, ap, arith}
use Rattle.std.specs.Prelude.{slice_get, count_by, ◌==◌}
use Rattle.std.proofs.lemmas.Option.{same_Some}
use Rattle.std.proofs.lemmas.Bool.{eq-eqb, ne_eqb}
use Rattle.std.proofs.lemmas.List.Sums.{sum_by_push, sum_by-cons}

pub slice_get-set : {X : Type 0} (xs : List X) (i : ℕ) (x : X) → i < length xs → slice_get (set xs i x) i ≡ Some x
slice_get-set [] i x h = absurd (omega arith)
slice_get-set (y ∷ ys) zero x h = refl
slice_get-set (y ∷ ys) (suc i) x h = slice_get-set ys i x (omega arith)

pub slice_get-set_other : {X : Type 0} (xs : List X) (i j : ℕ) (x : X) → j ≢ i → slice_get (set xs i x) j ≡ slice_get xs j
slice_get-set_other [] i j x n = refl
slice_get-set_other (y ∷ ys) zero zero x n = absurd (n refl)
slice_get-set_other (y ∷ ys) zero (suc j) x n = refl
slice_get-set_other (y ∷ ys) (suc i) zero x n = refl
slice_get-set_other (y ∷ ys) (suc i) (suc j) x n = slice_get-set_other ys i j x (λ e. n (ap suc e))

pub slice_get-push : {X : Type 0} (xs : List X) (x : X) → slice_get (xs ++ x ∷ []) (length xs) ≡ Some x
slice_get-push [] x = refl
slice_get-push (y ∷ ys) x = slice_get-push ys x

pub slice_get-push_other : {X : Type 0} (xs : List X) (j : ℕ) (x : X) → j ≢ length xs → slice_get (xs ++ x ∷ []) j ≡ slice_get xs j
slice_get-push_other [] zero x n = absurd (n refl)
slice_get-push_other [] (suc j) x n = refl
slice_get-push_other (y ∷ ys) zero x n = refl
slice_get-push_other (y ∷ ys) (suc j) x n = slice_get-push_other ys j x (λ e. n (ap suc e))

-- a write of what is there
pub set_same : {X : Type 0} (xs : List X) (k : ℕ) (x d : X) → x ≡ get_or xs k d → set xs k x ≡ xs
set_same [] k x d e = refl
set_same (z ∷ zs) zero x d e = ap (λ y. y ∷ zs) e
set_same (z ∷ zs) (suc k) x d e = ap (λ l. z ∷ l) (set_same zs k x d e)

pub set_found : {X : Type 0} (xs : List X) (k : ℕ) (x : X) → slice_get xs k ≡ Some x → set xs k x ≡ xs
set_found [] k x e = refl
set_found (z ∷ zs) zero x e = ap (λ y. y ∷ zs) (sym (same_Some z x e))
set_found (z ∷ zs) (suc k) x e = ap (λ l. z ∷ l) (set_found zs k x e)

-- how often a number stands in a list
pub count-push : (n m : ℕ) (xs : List ℕ) → count_by (λ k. k == n) (xs ++ m ∷ []) ≡ count_by (λ k. k == n) xs + cond (m == n) 1 0
count-push n m xs = sum_by_push (λ k. cond (k == n) 1 0) xs m

pub count-other : (n m : ℕ) (xs : List ℕ) → n ≢ m → count_by (λ k. k == n) (m ∷ xs) ≡ count_by (λ k. k == n) xs
count-other n m xs ne =
    let e : cond (m == n) 1 0 ≡ 0 = ap {B = ℕ} (λ b. cond b 1 0) (ne_eqb m n (λ h. ne (sym h))) in
    let s : count_by (λ k. k == n) (m ∷ xs) ≡ cond (m == n) 1 0 + count_by (λ k. k == n) xs = sum_by-cons (λ k. cond (k == n) 1 0) m xs in
    omega (arith, e, s)

pub count-here : (n : ℕ) (xs : List ℕ) → count_by (λ k. k == n) (n ∷ xs) ≡ suc (count_by (λ k. k == n) xs)
count-here n xs =
    let e : cond (n == n) 1 0 ≡ 1 = ap {B = ℕ} (λ b. cond b 1 0) (eq-eqb n n refl) in
    let s : count_by (λ k. k == n) (n ∷ xs) ≡ cond (n == n) 1 0 + count_by (λ k. k == n) xs = sum_by-cons (λ k. cond (k == n) 1 0) n xs in
    omega (arith, e, s)
