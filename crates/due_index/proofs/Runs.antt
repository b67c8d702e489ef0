-- In a tree, the root is the least of all leaves.
use Rattle.std.proofs.Common.{◌≡◌, ℕ, zero, suc, ◌+◌, ◌*◌, ◌<◌, ◌≤◌, List, [], ◌∷◌, length, take, refl, sym, ap, ◌∙◌, add-one, arith}
use Rattle.std.specs.Prelude.{Option, None, slice_index_or}
use Rattle.emu_model.specs.declared.sources.Due.{Due}
use Rattle.due_index.specs.Least.{lesser}
use Rattle.due_index.proofs.LeastDues.{lesser-none, lesser-comm, lesser-assoc, least_leaf}

-- the least of k places from a on
abbrev pub run : (ℕ → Option Due) → ℕ → ℕ → Option Due
run f a zero = None
run f a (suc k) = lesser (f a) (run f (a + 1) k)

run-more : (f : ℕ → Option Due) (a k b : ℕ) → b ≡ a + k → run f a (suc k) ≡ lesser (run f a k) (f b)
run-more f a zero b e =
    let same : a ≡ b = omega arith in lesser-none (f a) ∙ ap f same
run-more f a (suc k) b e =
    ap (lesser (f a)) (run-more f (a + 1) k b (omega arith))
    ∙ sym (lesser-assoc (f a) (run f (a + 1) k) (f b))

-- in a tree the first node is the least of each row of nodes that begins with node i
pub frontier : (f : ℕ → Option Due) (half : ℕ) → ((i : ℕ) → 0 < i → i < half → f i ≡ lesser (f (2 * i)) (f (2 * i + 1))) →
    (i : ℕ) → suc i ≤ half → f 1 ≡ run f (suc i) (suc i)
frontier f half met zero within = sym (lesser-none (f 1))
frontier f half met (suc i) within =
    let k : ℕ = suc i in
    let rest : Option Due = run f (k + 1) i in
    let next : k + 1 ≡ suc k = omega arith in
    frontier f half met i (omega (arith, within))
    ∙ ap (λ o. lesser o rest) (met k (omega arith) (omega (arith, within)))
    ∙ lesser-comm (lesser (f (2 * k)) (f (2 * k + 1))) rest
    ∙ sym (lesser-assoc rest (f (2 * k)) (f (2 * k + 1)))
    ∙ ap (λ o. lesser o (f (2 * k + 1))) (sym (run-more f (k + 1) i (2 * k) (omega arith)))
    ∙ sym (run-more f (k + 1) k (2 * k + 1) (omega arith))
    ∙ ap (λ j. run f j (suc k)) next

-- the same dues elsewhere
pub run-moved : (f g : ℕ → Option Due) (a c k : ℕ) → ((i : ℕ) → f (a + i) ≡ g (c + i)) → run f a k ≡ run g c k
run-moved f g a c zero h = refl
run-moved f g a c (suc k) h =
    let here : a ≡ a + 0 = omega arith in
    let there : c + 0 ≡ c = omega arith in
    ap (λ o. lesser o (run f (a + 1) k)) (ap f here ∙ h 0 ∙ ap g there)
    ∙ ap (lesser (g c)) (run-moved f g (a + 1) (c + 1) k (λ i.
    let one : (a + 1) + i ≡ a + (i + 1) = omega arith in
    let other : c + (i + 1) ≡ (c + 1) + i = omega arith in
    ap f one ∙ h (i + 1) ∙ ap g other))

run-later : (f : ℕ → Option Due) (a k : ℕ) → run f (a + 1) k ≡ run (λ i. f (i + 1)) a k
run-later f a zero = refl
run-later f a (suc k) = ap (lesser (f (a + 1))) (run-later f (a + 1) k)

abbrev pub leaf : List (Option Due) → ℕ → Option Due
leaf os i = slice_index_or os i None

-- of a list's elements, and of nothing past its end
pub run-list : (os : List (Option Due)) (f : ℕ → Option Due) → ((i : ℕ) → f i ≡ leaf os i) →
    run f 0 (length os) ≡ least_leaf os
run-list [] f h = refl
run-list (o ∷ os) f h =
    ap (λ p. lesser p (run f (0 + 1) (length os))) (h 0)
    ∙ ap (lesser o) (run-later f 0 (length os)
    ∙ run-list os (λ i. f (i + 1)) (λ i. ap f (add-one i) ∙ h (suc i)))

least-none : (os : List (Option Due)) → ((i : ℕ) → leaf os i ≡ None) → least_leaf os ≡ None
least-none [] h = refl
least-none (o ∷ os) h = ap (λ p. lesser p (least_leaf os)) (h 0) ∙ least-none os (λ i. h (suc i))

-- of those behind which nothing is due
pub least-take : (n : ℕ) (os : List (Option Due)) → ((i : ℕ) → n ≤ i → leaf os i ≡ None) → least_leaf os ≡ least_leaf (take n os)
least-take zero os h = least-none os (λ i. h i (omega arith))
least-take (suc n) [] h = refl
least-take (suc n) (o ∷ os) h = ap (lesser o) (least-take n os (λ i l. h (suc i) (omega (arith, l))))
