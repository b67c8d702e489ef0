-- Places are in the order of dues, and those behind a popped entry stay where they are.
use Rattle.std.proofs.Common.{inl, inr, ◌-◌, ◌≡◌, ◌≢◌, ℕ, zero, suc, ◌+◌, ◌*◌, ◌/◌, ◌%◌, ◌^◌, ◌<◌, ◌≤◌, cond, refl, sym, ap, subst, ◌∙◌, eq-eqb, arith}
use Rattle.std.proofs.lemmas.Bool.{cases_eq, cases_lt, ne_eqb}
use Rattle.timer_wheel.specs.Places.{climb, place_of}

-- numbers of so many bytes and one
size : ℕ → ℕ
size zero = 256
size (suc n) = 256 * size n

size-suc : (n : ℕ) → size (suc n) ≡ 256 * size n
unfolding size
size-suc n = refl

size-zero : size 0 ≡ 256
unfolding size
size-zero = refl

climb-last : (l c d : ℕ) → climb 0 l c d ≡ l * 256 + d % 256
unfolding climb
climb-last l c d = refl

climb-near : (n l c d : ℕ) → c / 256 ≡ d / 256 → climb n l c d ≡ l * 256 + d % 256
unfolding climb
climb-near zero l c d e = refl
climb-near (suc n) l c d e =
    ap (λ b. cond b (l * 256 + d % 256) (climb n (l + 1) (c / 256) (d / 256))) (eq-eqb (c / 256) (d / 256) e)

climb-far : (n l c d : ℕ) → c / 256 ≢ d / 256 → climb (suc n) l c d ≡ climb n (l + 1) (c / 256) (d / 256)
unfolding climb
climb-far n l c d e =
    ap (λ b. cond b (l * 256 + d % 256) (climb n (l + 1) (c / 256) (d / 256))) (ne_eqb (c / 256) (d / 256) e)

climb-low : (n l c d : ℕ) → l * 256 ≤ climb n l c d
climb-low zero l c d = let e : climb 0 l c d ≡ l * 256 + d % 256 = climb-last l c d in omega arith
climb-low (suc n) l c d =
    elim (cases_eq (c / 256) (d / 256)) [
      | inl e ↦ let k : climb (suc n) l c d ≡ l * 256 + d % 256 = climb-near (suc n) l c d e in omega arith
      | inr f ↦ let k : climb (suc n) l c d ≡ climb n (l + 1) (c / 256) (d / 256) = climb-far n l c d f in
          let ih : (l + 1) * 256 ≤ climb n (l + 1) (c / 256) (d / 256) = climb-low n (l + 1) (c / 256) (d / 256) in
          omega arith
    ]

pub climb-within : (n l c d : ℕ) → climb n l c d < (l + n + 1) * 256
climb-within zero l c d = let e : climb 0 l c d ≡ l * 256 + d % 256 = climb-last l c d in omega arith
climb-within (suc n) l c d =
    elim (cases_eq (c / 256) (d / 256)) [
      | inl e ↦ let k : climb (suc n) l c d ≡ l * 256 + d % 256 = climb-near (suc n) l c d e in omega arith
      | inr f ↦ let k : climb (suc n) l c d ≡ climb n (l + 1) (c / 256) (d / 256) = climb-far n l c d f in
          let ih : climb n (l + 1) (c / 256) (d / 256) < (l + 1 + n + 1) * 256 = climb-within n (l + 1) (c / 256) (d / 256) in
          omega arith
    ]

smaller : (n d : ℕ) → d < size (suc n) → d / 256 < size n
smaller n d h = let e : size (suc n) ≡ 256 * size n = size-suc n in omega arith

-- an entry at a lower place is due earlier
below : (a b : ℕ) → a ≤ b → (a ≡ b → ⊥) → a < b
below a b h ne = elim (cases_lt a b) [ inl l ↦ l | inr g ↦ absurd (ne (omega arith)) ]

climb-order : (n l c d e : ℕ) → c ≤ d → c ≤ e → d < size n → e < size n → climb n l c d < climb n l c e → d < e
climb-order zero l c d e cd ce ds es h =
    let s : size 0 ≡ 256 = size-zero in
    let p : climb 0 l c d ≡ l * 256 + d % 256 = climb-last l c d in
    let q : climb 0 l c e ≡ l * 256 + e % 256 = climb-last l c e in
    omega arith
climb-order (suc n) l c d e cd ce ds es h =
    elim (cases_eq (c / 256) (d / 256)) [
      | inl x ↦ let p : climb (suc n) l c d ≡ l * 256 + d % 256 = climb-near (suc n) l c d x in
          elim (cases_eq (c / 256) (e / 256)) [
            | inl y ↦ let q : climb (suc n) l c e ≡ l * 256 + e % 256 = climb-near (suc n) l c e y in omega arith
            | inr z ↦ let ne : c / 256 ≡ e / 256 → ⊥ = z in
                let le : c / 256 ≤ e / 256 = omega arith in
                let lt : c / 256 < e / 256 = below _ _ le ne in
                omega arith
          ]
      | inr w ↦ let p : climb (suc n) l c d ≡ climb n (l + 1) (c / 256) (d / 256) = climb-far n l c d w in
          let low : (l + 1) * 256 ≤ climb n (l + 1) (c / 256) (d / 256) = climb-low n (l + 1) (c / 256) (d / 256) in
          elim (cases_eq (c / 256) (e / 256)) [
            | inl y ↦ let q : climb (suc n) l c e ≡ l * 256 + e % 256 = climb-near (suc n) l c e y in absurd (omega arith)
            | inr z ↦ let q : climb (suc n) l c e ≡ climb n (l + 1) (c / 256) (e / 256) = climb-far n l c e z in
                let ih : d / 256 < e / 256 =
                climb-order n (l + 1) (c / 256) (d / 256) (e / 256) (omega arith) (omega arith) (smaller n d ds) (smaller n e es) (omega arith) in
                omega arith
          ]
    ]

same_head : (n l c b d : ℕ) → c / 256 ≡ b / 256 → climb (suc n) l b d ≡ climb (suc n) l c d
same_head n l c b d x =
    elim (cases_eq (c / 256) (d / 256)) [
      | inl y ↦ climb-near (suc n) l b d (sym x ∙ y) ∙ sym (climb-near (suc n) l c d y)
      | inr z ↦ climb-far n l b d (λ e. z (x ∙ e)) ∙ ap (λ v. climb n (l + 1) v (d / 256)) (sym x) ∙ sym (climb-far n l c d z)
    ]

-- where the clock moves to a due, the entries at higher places stay where they are
climb-stays : (n l c b d : ℕ) → climb n l c b < climb n l c d → climb n l b d ≡ climb n l c d
climb-stays zero l c b d h = climb-last l b d ∙ sym (climb-last l c d)
climb-stays (suc n) l c b d h =
    elim (cases_eq (c / 256) (b / 256)) [
      | inl x ↦ same_head n l c b d x
      | inr w ↦ let p : climb (suc n) l c b ≡ climb n (l + 1) (c / 256) (b / 256) = climb-far n l c b w in
          let low : (l + 1) * 256 ≤ climb n (l + 1) (c / 256) (b / 256) = climb-low n (l + 1) (c / 256) (b / 256) in
          elim (cases_eq (c / 256) (d / 256)) [
            | inl y ↦ let q : climb (suc n) l c d ≡ l * 256 + d % 256 = climb-near (suc n) l c d y in absurd (omega arith)
            | inr z ↦ let q : climb (suc n) l c d ≡ climb n (l + 1) (c / 256) (d / 256) = climb-far n l c d z in
                let lt : climb n (l + 1) (c / 256) (b / 256) < climb n (l + 1) (c / 256) (d / 256) = omega arith in
                let ih : climb n (l + 1) (b / 256) (d / 256) ≡ climb n (l + 1) (c / 256) (d / 256) = climb-stays n (l + 1) (c / 256) (b / 256) (d / 256) lt in
                let apart : b / 256 ≢ d / 256 = λ e. let k : climb n (l + 1) (c / 256) (b / 256) ≡ climb n (l + 1) (c / 256) (d / 256) = ap (climb n (l + 1) (c / 256)) e in omega arith in
                climb-far n l b d apart ∙ ih ∙ sym q
          ]
    ]

pub place_of-within : (c d : ℕ) → place_of c d < 2048
unfolding place_of
place_of-within c d = climb-within 7 0 c d

size-seven : size 7 ≡ 2 ^ 64
unfolding size
size-seven = refl

-- an entry at a lower place is due earlier
pub place_of-order : (c d e : ℕ) → c ≤ d → c ≤ e → d < 2 ^ 64 → e < 2 ^ 64 → place_of c d < place_of c e → d < e
unfolding place_of
place_of-order c d e cd ce ds es h = climb-order 7 0 c d e cd ce (rw size-seven ds) (rw size-seven es) h

-- where the clock moves to a due, the entries at higher places stay where they are
pub place_of-stays : (c b d : ℕ) → place_of c b < place_of c d → place_of b d ≡ place_of c d
unfolding place_of
place_of-stays c b d h = climb-stays 7 0 c b d h

-- the loop of `place`
pub place_start : (c d : ℕ) → climb 7 0 c d ≡ place_of c d
unfolding place_of
place_start c d = refl

pub place_near : (l c d p : ℕ) → climb (7 - l) l c d ≡ p → c / 256 ≡ d / 256 → l * 256 + d % 256 ≡ p
place_near l c d p h e = sym (climb-near (7 - l) l c d e) ∙ h

pub place_step : (l c d p : ℕ) → l < 7 → climb (7 - l) l c d ≡ p → (c / 256 ≡ d / 256 → ⊥) → climb (7 - (l + 1)) (l + 1) (c / 256) (d / 256) ≡ p
place_step l c d p within h e =
    let n : 7 - l ≡ suc (7 - (l + 1)) = omega arith in
    sym (climb-far (7 - (l + 1)) l c d e) ∙ ap (λ k. climb k l c d) (sym n) ∙ h

pub place_last : (l c d p : ℕ) → l ≡ 7 → climb (7 - l) l c d ≡ p → 7 * 256 + d % 256 ≡ p
place_last l c d p e h =
    sym (climb-last 7 c d) ∙ subst (λ k. climb (7 - k) k c d ≡ p) e h
