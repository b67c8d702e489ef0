-- The least byte that did not come: as many segments as came can't hold one more.
use Rattle.std.proofs.Common.{inl, inr, ◌≡◌, ℕ, zero, suc, ◌+◌, ◌*◌, ◌<◌, ◌≤◌, ◌⊎◌, Bool, true, false, List, [], ◌∷◌, length, refl, sym, ap, ◌∙◌, subst, eq-eqb, arith}
use Rattle.std.specs.Prelude.{◌==◌}
use Rattle.std.specs.List.{list_any, AllByRecursion}
use Rattle.std.proofs.lemmas.Bool.{cases_Bool, cases_order, eqb-true, ne_eqb, lt-ltb, le-ltb}
use Rattle.std.proofs.Math.Nat.{mul-le-mul_right}
use Rattle.emu_model.specs.Reno.{with_segment, first_gap, missing}
use Rattle.emu_laws.specs.Missing.{received, MissingIsLeast}

unfoldable pub has : List ℕ → ℕ → Bool
has xs x = list_any (λ y. y == x) xs

-- each is less than all behind it
Rises : List ℕ → Type 0
Rises [] = Unit {0}
Rises (x ∷ xs) = AllByRecursion (λ y. x < y) xs × Rises xs

all_above : (x y : ℕ) (xs : List ℕ) → x < y → AllByRecursion (λ z. y < z) xs → AllByRecursion (λ z. x < z) xs
all_above x y [] low h = h
all_above x y (z ∷ zs) low h = (omega (arith, low, h.0), all_above x y zs low h.1)

-- the new one is among those behind, above all that are before
stays_above : (x first : ℕ) (xs : List ℕ) → x < first → AllByRecursion (λ z. x < z) xs →
    AllByRecursion (λ z. x < z) (with_segment first xs)
stays_above x first [] low h = (low, h)
stays_above x first (y ∷ ys) low h = elim (cases_order first y) [
  | inl e ↦ rw (le-ltb first y (omega (arith, e)), eq-eqb first y e) h
  | inr w ↦ elim w [
    | inl l ↦ rw (lt-ltb first y l) (low, h)
    | inr l ↦ rw (le-ltb first y (omega (arith, l)), ne_eqb first y (λ e. omega (arith, e, l)))
        (h.0, stays_above x first ys low h.1)
  ]
]

rises_with : (first : ℕ) (xs : List ℕ) → Rises xs → Rises (with_segment first xs)
unfolding Rises
rises_with first [] h = (h, h)
rises_with first (y ∷ ys) h = elim (cases_order first y) [
  | inl e ↦ rw (le-ltb first y (omega (arith, e)), eq-eqb first y e) h
  | inr w ↦ elim w [
    | inl l ↦ rw (lt-ltb first y l) ((l, all_above first y ys l h.0), h)
    | inr l ↦ rw (le-ltb first y (omega (arith, l)), ne_eqb first y (λ e. omega (arith, e, l)))
        (stays_above y first ys l h.0, rises_with first ys h.1)
  ]
]

rises_received : (firsts : List ℕ) → Rises (received firsts)
unfolding Rises
rises_received [] = tt
rises_received (x ∷ xs) = rises_with x (received xs) (rises_received xs)

-- n segments stand at and after a place
pub Runs : ℕ → ℕ → List ℕ → ℕ → Type 0
Runs zero smss xs from = Unit {0}
Runs (suc n) smss xs from = (has xs from ≡ true) × Runs n smss xs (from + smss)

-- what is above the first is behind it
has_behind : (x a : ℕ) (xs : List ℕ) → x < a → has (x ∷ xs) a ≡ has xs a
unfolding has
has_behind x a xs low = rw (ne_eqb x a (λ e. omega (arith, e, low))) refl

runs_behind : (n smss x a : ℕ) (xs : List ℕ) → x < a → Runs n smss (x ∷ xs) a → Runs n smss xs a
unfolding Runs
runs_behind zero smss x a xs low h = h
runs_behind (suc n) smss x a xs low h =
    (sym (has_behind x a xs low) ∙ h.0, runs_behind n smss x (a + smss) xs (omega (arith, low)) h.1)

above_of : (x a : ℕ) (xs : List ℕ) → AllByRecursion (λ y. x < y) xs → has xs a ≡ true → x < a
unfolding has
above_of x a [] h k = cc
above_of x a (y ∷ ys) h k = elim (cases_Bool (y == a)) [
  | inl t ↦ omega (arith, h.0, eqb-true y a t)
  | inr f ↦ above_of x a ys h.1 (rw f at k)
]

-- as many segments are at least as many numbers
run_long : (n smss : ℕ) (xs : List ℕ) (a : ℕ) → 0 < smss → Rises xs → Runs n smss xs a → n ≤ length xs
unfolding Rises Runs has
run_long zero smss xs a pos r h = omega arith
run_long (suc n) smss [] a pos r h = let bad : false ≡ true = h.0 in cc
run_long (suc n) smss (x ∷ xs) a pos r h = elim (cases_Bool (x == a)) [
  | inl t ↦
      let low : x < a + smss = omega (arith, eqb-true x a t, pos) in
      omega (arith, run_long n smss xs (a + smss) pos r.1 (runs_behind n smss x (a + smss) xs low h.1))
  | inr f ↦
      let there : has xs a ≡ true = rw f at h.0 in
      let low : x < a = above_of x a xs r.0 there in
      omega (arith, run_long (suc n) smss xs a pos r.1 (runs_behind (suc n) smss x a xs low h))
]

-- where the search stops, either a segment is missing or all that it looked at are there
pub record Stops (n smss : ℕ) (xs : List ℕ) (from : ℕ) : Type 0 where
  pub steps : ℕ
  pub few : steps ≤ n
  pub at : first_gap n smss xs from ≡ from + steps * smss
  pub runs : Runs steps smss xs from
  pub last : (has xs (first_gap n smss xs from) ≡ false) ⊎ (steps ≡ n)

pub stops : (n smss : ℕ) (xs : List ℕ) (from : ℕ) → Stops n smss xs from
unfolding Runs has
stops zero smss xs from = record {
  steps = 0;
  few = omega arith;
  at = omega arith;
  runs = tt;
  last = inr refl;
}
stops (suc n) smss xs from = elim (cases_Bool (has xs from)) [
  | inr f ↦ record {
    steps = 0;
    few = omega arith;
    at = rw f (omega arith);
    runs = tt;
    last = inl (rw f f);
  }
  | inl t ↦
      let s = stops n smss xs (from + smss) in
      record {
        steps = suc s.steps;
        few = omega (arith, s.few);
        at = rw t (s.at ∙ omega arith);
        runs = (t, s.runs);
        last = elim s.last [
          | inl gap ↦ inl (rw t gap)
          | inr all ↦ inr (ap suc all)
        ];
      }
]

-- one more at the end of a run
runs_more : (n smss : ℕ) (xs : List ℕ) (a : ℕ) → Runs n smss xs a → has xs (a + n * smss) ≡ true →
    Runs (suc n) smss xs a
unfolding Runs
runs_more zero smss xs a h k = (ap (has xs) (omega arith) ∙ k, tt)
runs_more (suc n) smss xs a h k =
    (h.0, runs_more n smss xs (a + smss) h.1 (ap (has xs) (omega arith) ∙ k))

run_at : (n smss : ℕ) (xs : List ℕ) (a k : ℕ) → Runs n smss xs a → k < n → has xs (a + k * smss) ≡ true
unfolding Runs
run_at zero smss xs a k h low = absurd (omega (arith, low))
run_at (suc n) smss xs a zero h low = ap (has xs) (omega arith) ∙ h.0
run_at (suc n) smss xs a (suc k) h low =
    ap (has xs) (omega arith) ∙ run_at n smss xs (a + smss) k h.1 (omega (arith, low))

pub fewer : (a b n : ℕ) → a * n < b * n → a < b
fewer a b n h = elim (cases_order a b) [
  | inl e ↦ omega (arith, h, ap (λ m. m * n) e)
  | inr w ↦ elim w [
    | inl l ↦ l
    | inr l ↦ omega (arith, h, mul-le-mul_right {m = b} {n = a} n (omega (arith, l)))
  ]
]

pub missing_is_least : MissingIsLeast
unfolding has
missing_is_least smss firsts pos =
    let came : List ℕ = received firsts in
    let n : ℕ = length came in
    let s = stops n smss came 0 in
    let rising = rises_received firsts in (
      elim s.last [
        | inl gap ↦ gap
        | inr all ↦ elim (cases_Bool (has came (missing smss came))) [
          | inr f ↦ f
          | inl t ↦
              let end : has came (0 + n * smss) ≡ true = ap (has came) (ap (λ k. 0 + k * smss) (sym all) ∙ sym s.at) ∙ t in
              let whole : Runs n smss came 0 = subst (λ k. Runs k smss came 0) all s.runs in
              absurd (omega (arith, run_long (suc n) smss came 0 pos rising (runs_more n smss came 0 whole end)))
        ]
      ],
      λ k low.
          let before : k < s.steps = fewer k s.steps smss (omega (arith, low, s.at)) in
          ap (has came) (omega arith) ∙ run_at s.steps smss came 0 k s.runs before,
    )
