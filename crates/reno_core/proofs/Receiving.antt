-- The segments that came, as a set.
use Rattle.std.proofs.Common.{◌≡◌, ◌≢◌, ℕ, zero, suc, ◌+◌, ◌*◌, ◌/◌, ◌%◌, ◌<◌, ◌≤◌, Bool, true, false, List, [], ◌∷◌, length, get_or, refl, sym, ◌∙◌, ap, inl, inr, subst, add-one, nat_cmp, arith}
use Rattle.std.specs.Prelude.{◌==◌, ◌||◌, ◌⊎◌, ◌↔◌, Ok, Err}
use Rattle.std.specs.List.Sorted.{IsBinarySearchResult}
use Rattle.std.specs.List.{insert, remove}
use Rattle.std.proofs.Math.Nat.{mul-le-mul_right, mul_comm, div-add-mod, mul-mod_left}
use Rattle.std.proofs.lemmas.List.Sorted.{searched}
use Rattle.std.proofs.lemmas.Bool.{lt-ltb, le-ltb, eq-eqb, ne_eqb, cases_order, cases_eq, cases_lt, cond_both, or_right, true≢false}
use Rattle.emu_model.specs.Reno.{with_segment, first_gap, missing}
use Rattle.reno_core.specs.RenoLaws.{SegmentsAreASet, NumberNeverFalls}
use Rattle.reno_core.specs.Kept.{filled, contains, IsBelow, Rises, IsApart, IsKept, most_segments}

-- the three cases of an insertion
lower : (a x : ℕ) (xs : List ℕ) → a < x → with_segment a (x ∷ xs) ≡ a ∷ x ∷ xs
lower a x xs h = rw (lt-ltb a x h)

same : (a x : ℕ) (xs : List ℕ) → a ≡ x → with_segment a (x ∷ xs) ≡ x ∷ xs
same a x xs h = rw (le-ltb a x (omega (arith, h)), eq-eqb a x h)

higher : (a x : ℕ) (xs : List ℕ) → x < a → with_segment a (x ∷ xs) ≡ x ∷ with_segment a xs
higher a x xs h = rw (le-ltb a x (omega (arith, h)), ne_eqb a x (λ e. absurd (omega (arith, e, h))))

-- the order in which segments come makes no difference
swapped : (a b : ℕ) (xs : List ℕ) → a < b →
    with_segment a (with_segment b xs) ≡ with_segment b (with_segment a xs)
swapped a b [] h = lower a b [] h ∙ sym (higher b a [] h)
swapped a b (x ∷ xs) h = elim (cases_order b x) [
  | inl e ↦
      ap (with_segment a) (same b x xs e) ∙ lower a x xs (omega (arith, e, h))
      ∙ sym (ap (with_segment b) (lower a x xs (omega (arith, e, h))) ∙ higher b a (x ∷ xs) h ∙ ap (λ ys. a ∷ ys) (same b x xs e))
  | inr (inl l) ↦
      ap (with_segment a) (lower b x xs l) ∙ lower a b (x ∷ xs) h
      ∙ sym (ap (with_segment b) (lower a x xs (omega (arith, l, h))) ∙ higher b a (x ∷ xs) h ∙ ap (λ ys. a ∷ ys) (lower b x xs l))
  | inr (inr g) ↦ ap (with_segment a) (higher b x xs g) ∙ elim (cases_order a x) [
    | inl e ↦ same a x (with_segment b xs) e
        ∙ sym (ap (with_segment b) (same a x xs e) ∙ higher b x xs g)
    | inr (inl l) ↦ lower a x (with_segment b xs) l
        ∙ sym (ap (with_segment b) (lower a x xs l) ∙ higher b a (x ∷ xs) h ∙ ap (λ ys. a ∷ ys) (higher b x xs g))
    | inr (inr k) ↦ higher a x (with_segment b xs) k ∙ ap (λ ys. x ∷ ys) (swapped a b xs h)
        ∙ sym (ap (with_segment b) (higher a x xs k) ∙ higher b x (with_segment a xs) g)
  ]
]

commutes : (a b : ℕ) (xs : List ℕ) →
    with_segment a (with_segment b xs) ≡ with_segment b (with_segment a xs)
commutes a b xs = elim (cases_order a b) [
  | inl e ↦ rw e
  | inr (inl l) ↦ swapped a b xs l
  | inr (inr g) ↦ sym (swapped b a xs g)
]

-- a segment that came before changes nothing
repeated : (a : ℕ) (xs : List ℕ) → with_segment a (with_segment a xs) ≡ with_segment a xs
repeated a [] = same a a [] refl
repeated a (x ∷ xs) = elim (cases_order a x) [
  | inl e ↦ ap (with_segment a) (same a x xs e)
  | inr (inl l) ↦ ap (with_segment a) (lower a x xs l) ∙ same a a (x ∷ xs) refl ∙ sym (lower a x xs l)
  | inr (inr g) ↦ ap (with_segment a) (higher a x xs g) ∙ higher a x (with_segment a xs) g
      ∙ ap (λ ys. x ∷ ys) (repeated a xs) ∙ sym (higher a x xs g)
]

pub filled_with : (smss n a : ℕ) (xs : List ℕ) →
    with_segment a (filled smss n xs) ≡ filled smss n (with_segment a xs)
filled_with smss zero a xs = refl
filled_with smss (suc n) a xs =
    commutes a (n * smss) (filled smss n xs) ∙ ap (with_segment (n * smss)) (filled_with smss n a xs)

pub filled_again : (smss n k : ℕ) (xs : List ℕ) → k < n →
    with_segment (k * smss) (filled smss n xs) ≡ filled smss n xs
filled_again smss zero k xs h = absurd (omega (arith, h))
filled_again smss (suc n) k xs h = elim (cases_eq k n) [
  | inl e ↦ rw e (repeated (n * smss) (filled smss n xs))
  | inr ne ↦ commutes (k * smss) (n * smss) (filled smss n xs)
      ∙ ap (with_segment (n * smss)) (filled_again smss n k xs (let distinct = ne in omega arith))
]

-- what an insertion contains
contains-with : (v a : ℕ) (xs : List ℕ) →
    contains v (with_segment a xs) ≡ ((a == v) || contains v xs)
contains-with v a [] = refl
contains-with v a (x ∷ xs) = elim (cases_order a x) [
  | inl e ↦ ap (contains v) (same a x xs e) ∙ rw e (twice (x == v) (contains v xs))
  | inr (inl l) ↦ ap (contains v) (lower a x xs l)
  | inr (inr g) ↦ ap (contains v) (higher a x xs g)
      ∙ ap (λ b. (x == v) || b) (contains-with v a xs) ∙ turned (x == v) (a == v) (contains v xs)
]
  where
    twice : (p q : Bool) → (p || q) ≡ (p || (p || q))
    twice true q = refl
    twice false q = refl

    turned : (p q r : Bool) → (p || (q || r)) ≡ (q || (p || r))
    turned true true r = refl
    turned true false r = refl
    turned false true r = refl
    turned false false r = refl

length-with : (a : ℕ) (xs : List ℕ) → contains a xs ≡ false →
    length (with_segment a xs) ≡ length xs + 1
length-with a [] h = refl
length-with a (x ∷ xs) h = elim (cases_order a x) [
  | inl e ↦ absurd (true≢false (sym (rw (eq-eqb x a (sym e)) refl) ∙ h))
  | inr (inl l) ↦ ap length (lower a x xs l) ∙ omega arith
  | inr (inr g) ↦ ap length (higher a x xs g)
      ∙ ap (λ n. suc n) (length-with a xs (rest (x == a) h)) ∙ omega arith
]
  where
    rest : (p : Bool) → (p || contains a xs) ≡ false → contains a xs ≡ false
    rest true e = absurd (true≢false e)
    rest false e = e

multiple_ne : (smss j k : ℕ) → 1 ≤ smss → j < k → (j * smss == k * smss) ≡ false
multiple_ne smss j k least h =
    ne_eqb _ _ (λ e. absurd (omega (arith, e, least, mul-le-mul_right smss h)))

-- a filled list has its first n segments, and besides them what it was filled over
pub contains-filled : (smss n k : ℕ) (xs : List ℕ) → k < n →
    contains (k * smss) (filled smss n xs) ≡ true
contains-filled smss zero k xs h = absurd (omega (arith, h))
contains-filled smss (suc n) k xs h =
    contains-with (k * smss) (n * smss) (filled smss n xs) ∙ elim (cases_eq k n) [
      | inl e ↦ rw (eq-eqb (n * smss) (k * smss) (ap (λ i. i * smss) (sym e)))
      | inr ne ↦ rw (contains-filled smss n k xs (let distinct = ne in omega arith)) (or_true (n * smss == k * smss))
    ]
  where
    or_true : (p : Bool) → (p || true) ≡ true
    or_true true = refl
    or_true false = refl

pub lacks-filled : (smss n v : ℕ) (xs : List ℕ) → 1 ≤ smss → n ≤ v → contains (v * smss) xs ≡ false →
    contains (v * smss) (filled smss n xs) ≡ false
lacks-filled smss zero v xs least h e = e
lacks-filled smss (suc n) v xs least h e =
    contains-with (v * smss) (n * smss) (filled smss n xs)
    ∙ rw (multiple_ne smss n v least h, lacks-filled smss n v xs least (omega (arith, h)) e)

pub length-filled : (smss n : ℕ) (xs : List ℕ) → 1 ≤ smss → IsApart smss n xs →
    length (filled smss n xs) ≡ n + length xs
length-filled smss zero xs least h = sym (omega arith)
length-filled smss (suc n) xs least h =
    length-with (n * smss) (filled smss n xs)
    (lacks-filled smss n n xs least (omega arith) (h n (omega arith)))
    ∙ omega (arith, length-filled smss n xs least (λ k below. h k (omega (arith, below))))

-- a search for the first gap goes over what is there
gap_after : (j m smss : ℕ) (came : List ℕ) (from : ℕ) →
    ((i : ℕ) → i < j → contains (from + i * smss) came ≡ true) →
    contains (from + j * smss) came ≡ false →
    first_gap (j + m) smss came from ≡ from + j * smss
gap_after zero zero smss came from there gap = omega arith
gap_after zero (suc m) smss came from there gap =
    let e : contains from came ≡ false = rw (← at_zero) gap in
    let z : zero + suc m ≡ suc m = omega arith in
    rw z (rw e (sym at_zero))
  where
    at_zero : from + zero * smss ≡ from
    at_zero = omega arith
gap_after (suc j) m smss came from there gap =
    let z : suc j + m ≡ suc (j + m) = omega arith in
    let e : contains from came ≡ true = rw (← at_zero) (there zero (omega arith)) in
    rw z (rw e (gap_after j m smss came (from + smss)
    (λ i h. rw (moved i) (there (suc i) (omega (arith, h)))) (rw (moved j) gap) ∙ moved j))
  where
    at_zero : from + zero * smss ≡ from
    at_zero = omega arith

    moved : (i : ℕ) → from + smss + i * smss ≡ from + suc i * smss
    moved i = omega arith

-- the number that a receiver acknowledges
pub missing-filled : (smss n : ℕ) (xs : List ℕ) → 1 ≤ smss → IsApart smss (n + 1) xs →
    missing smss (filled smss n xs) ≡ n * smss
missing-filled smss n xs least apart =
    let came = filled smss n xs in
    let long = length-filled smss n xs least (λ k h. apart k (omega (arith, h))) in
    let zeroed : (i : ℕ) → 0 + i * smss ≡ i * smss = λ i. omega arith in
    rw long (gap_after n (length xs) smss came 0
    (λ i h. rw (zeroed i) (contains-filled smss n i xs h))
    (rw (zeroed n) (lacks-filled smss n n xs least (omega arith) (apart n (omega arith))))
    ∙ zeroed n)

-- order
pub rising_above : (v : ℕ) (xs : List ℕ) (k : ℕ) → IsBelow v xs → k < length xs → v < get_or xs k 0
rising_above v [] k h below = absurd (omega (arith, below))
rising_above v (x ∷ xs) zero h below = h.0
rising_above v (x ∷ xs) (suc k) h below = rising_above v xs k h.1 (omega (arith, below))

pub rising_order : (xs : List ℕ) → Rises xs → (i j : ℕ) → i ≤ j → j < length xs →
    get_or xs i 0 ≤ get_or xs j 0
rising_order [] h i j le below = absurd (omega (arith, below))
rising_order (x ∷ xs) h zero zero le below = omega arith
rising_order (x ∷ xs) h zero (suc j) le below =
    omega (arith, rising_above x xs j h.0 (omega (arith, below)))
rising_order (x ∷ xs) h (suc i) zero le below = absurd (omega (arith, le))
rising_order (x ∷ xs) h (suc i) (suc j) le below =
    rising_order xs h.1 i j (omega (arith, le)) (omega (arith, below))

IsBelow-with : (v a : ℕ) (xs : List ℕ) → v < a → IsBelow v xs → IsBelow v (with_segment a xs)
IsBelow-with v a [] h p = (h, tt)
IsBelow-with v a (x ∷ xs) h p = elim (cases_order a x) [
  | inl e ↦ rw (same a x xs e) p
  | inr (inl l) ↦ rw (lower a x xs l) (h, p)
  | inr (inr g) ↦ rw (higher a x xs g) (p.0, IsBelow-with v a xs h p.1)
]

IsBelow-less : (u v : ℕ) (xs : List ℕ) → u < v → IsBelow v xs → IsBelow u xs
IsBelow-less u v [] h p = tt
IsBelow-less u v (x ∷ xs) h p = (omega (arith, p.0, h), IsBelow-less u v xs h p.1)

pub Rises-with : (a : ℕ) (xs : List ℕ) → Rises xs → Rises (with_segment a xs)
Rises-with a [] h = (tt, tt)
Rises-with a (x ∷ xs) h = elim (cases_order a x) [
  | inl e ↦ rw (same a x xs e) h
  | inr (inl l) ↦ rw (lower a x xs l) ((l, IsBelow-less a x xs l h.0), h)
  | inr (inr g) ↦ rw (higher a x xs g) (IsBelow-with x a xs g h.0, Rises-with a xs h.1)
]

contains-below : (v : ℕ) (xs : List ℕ) → IsBelow v xs → contains v xs ≡ false
contains-below v [] h = refl
contains-below v (x ∷ xs) h =
    rw (ne_eqb x v (λ e. absurd (omega (arith, e, h.0))), contains-below v xs h.1)

pub contains-nowhere : (v : ℕ) (xs : List ℕ) → ((k : ℕ) → k < length xs → get_or xs k 0 ≢ v) →
    contains v xs ≡ false
contains-nowhere v [] h = refl
contains-nowhere v (x ∷ xs) h =
    rw (ne_eqb x v (h 0 (omega arith)), contains-nowhere v xs (λ k below. h (suc k) (omega (arith, below))))

-- an insertion at the place that a search answers
pub insert_is : (xs : List ℕ) (i x : ℕ) → i ≤ length xs →
    ((k : ℕ) → k < i → get_or xs k 0 < x) →
    ((k : ℕ) → i ≤ k → k < length xs → x < get_or xs k 0) → insert xs i x ≡ with_segment x xs
insert_is [] zero x le less more = refl
insert_is [] (suc i) x le less more = absurd (omega (arith, le))
insert_is (y ∷ ys) zero x le less more = sym (lower x y ys (more 0 (omega arith) (omega arith)))
insert_is (y ∷ ys) (suc i) x le less more =
    ap (λ zs. y ∷ zs) (insert_is ys i x (omega (arith, le))
    (λ k h. less (suc k) (omega (arith, h)))
    (λ k h below. more (suc k) (omega (arith, h)) (omega (arith, below))))
    ∙ sym (higher x y ys (less 0 (omega arith)))

below_first : (v : ℕ) (xs : List ℕ) → IsBelow v xs → with_segment v xs ≡ v ∷ xs
below_first v [] h = refl
below_first v (x ∷ xs) h = lower v x xs h.0

-- what was taken out can be put back
pub remove_back : (xs : List ℕ) (i : ℕ) → Rises xs → i < length xs →
    with_segment (get_or xs i 0) (remove xs i) ≡ xs
remove_back [] i h below = absurd (omega (arith, below))
remove_back (x ∷ xs) zero h below = below_first x xs h.0
remove_back (x ∷ xs) (suc i) h below =
    higher (get_or xs i 0) x (remove xs i) (rising_above x xs i h.0 (omega (arith, below)))
    ∙ ap (λ ys. x ∷ ys) (remove_back xs i h.1 (omega (arith, below)))

pub contains-removed : (xs : List ℕ) (i : ℕ) → Rises xs → i < length xs →
    contains (get_or xs i 0) (remove xs i) ≡ false
contains-removed [] i h below = absurd (omega (arith, below))
contains-removed (x ∷ xs) zero h below = contains-below x xs h.0
contains-removed (x ∷ xs) (suc i) h below =
    let above = rising_above x xs i h.0 (omega (arith, below)) in
    rw (ne_eqb x (get_or xs i 0) (λ e. absurd (omega (arith, e, above))), contains-removed xs i h.1 (omega (arith, below)))

IsBelow-remove : (v : ℕ) (xs : List ℕ) (i : ℕ) → IsBelow v xs → IsBelow v (remove xs i)
IsBelow-remove v [] zero h = tt
IsBelow-remove v [] (suc i) h = tt
IsBelow-remove v (x ∷ xs) zero h = h.1
IsBelow-remove v (x ∷ xs) (suc i) h = (h.0, IsBelow-remove v xs i h.1)

pub Rises-remove : (xs : List ℕ) (i : ℕ) → Rises xs → Rises (remove xs i)
Rises-remove [] zero h = tt
Rises-remove [] (suc i) h = tt
Rises-remove (x ∷ xs) zero h = h.1
Rises-remove (x ∷ xs) (suc i) h = (IsBelow-remove x xs i h.0, Rises-remove xs i h.1)

pub IsApart-with : (smss n a : ℕ) (xs : List ℕ) → IsApart smss n xs →
    ((k : ℕ) → k < n → a ≢ k * smss) → IsApart smss n (with_segment a xs)
IsApart-with smss n a xs h ne k below =
    contains-with (k * smss) a xs ∙ rw (ne_eqb a (k * smss) (ne k below), h k below)

-- the next segment in order was there already
pub IsApart-absorb : (smss n : ℕ) (xs : List ℕ) (i : ℕ) → Rises xs → i < length xs →
    get_or xs i 0 ≡ n * smss → IsApart smss n xs → IsApart smss (n + 1) (remove xs i)
IsApart-absorb smss n xs i rises below is h k inside = elim (cases_eq k n) [
  | inl e ↦ let same_value : k * smss ≡ get_or xs i 0 = ap (λ j. j * smss) e ∙ sym is in
      rw same_value (contains-removed xs i rises below)
  | inr ne ↦
      let whole = h k (let distinct = ne in omega (arith, inside)) in
      let split = contains-with (k * smss) (get_or xs i 0) (remove xs i) in
      right (get_or xs i 0 == k * smss) _ (sym split ∙ ap (contains (k * smss)) (remove_back xs i rises below) ∙ whole)
]
  where
    right : (p q : Bool) → (p || q) ≡ false → q ≡ false
    right true q e = absurd (true≢false e)
    right false q e = e

pub filled-absorb : (smss n : ℕ) (xs : List ℕ) (i : ℕ) → Rises xs → i < length xs →
    get_or xs i 0 ≡ n * smss → filled smss (n + 1) (remove xs i) ≡ filled smss n xs
filled-absorb smss n xs i rises below is =
    rw add-one (filled_with smss n (n * smss) (remove xs i)
    ∙ ap (filled smss n) (rw (← is) (remove_back xs i rises below)))

pub filled_present : (smss n : ℕ) (xs : List ℕ) (i : ℕ) → Rises xs → i < length xs →
    with_segment (get_or xs i 0) (filled smss n xs) ≡ filled smss n xs
filled_present smss n xs i rises below =
    let back = remove_back xs i rises below in
    filled_with smss n (get_or xs i 0) xs
    ∙ ap (filled smss n) (ap (with_segment (get_or xs i 0)) (sym back)
    ∙ repeated (get_or xs i 0) (remove xs i) ∙ back)

-- where a search ended without finding
absent : (xs : List ℕ) (x i : ℕ) → IsBinarySearchResult (λ y. nat_cmp y x) xs (Err i) → Rises xs →
    contains x xs ≡ false
absent xs x i h rises =
    let s = searched xs x (Err i) h (rising_order xs rises) in
    contains-nowhere x xs (λ k below e. elim (cases_lt k i) [
      | inl l ↦ omega (arith, s.1 k l, e)
      | inr g ↦ omega (arith, s.2 k g below, e)
    ])

-- all that follows in order was taken out
pub absorbed : (s n total : ℕ) (xs : List ℕ) (i : ℕ) → 1 ≤ s → s ≤ 1460 → n + length xs ≡ total →
    total ≤ most_segments → Rises xs → IsApart s n xs →
    IsBinarySearchResult (λ y. nat_cmp y (n * s)) xs (Err i) → IsKept s n xs
absorbed s n total xs i least most is few rises apart found = record {
  least = least;
  most = most;
  few = omega arith;
  rises = rises;
  apart = λ k below. elim (cases_eq k n) [
    | inl e ↦ rw e (absent xs (n * s) i found rises)
    | inr ne ↦ apart k (let distinct = ne in omega arith)
  ];
}

pub found_at : (xs : List ℕ) (x i : ℕ) → IsBinarySearchResult (λ y. nat_cmp y x) xs (Ok i) → Rises xs →
    (i < length xs) × (get_or xs i 0 ≡ x)
found_at xs x i h rises = searched xs x (Ok i) h (rising_order xs rises)

-- what a receiver acknowledges
pub next_is : (s t n : ℕ) (xs : List ℕ) → t ≡ s → IsKept s n xs → n * t ≡ missing s (filled s n xs)
next_is s t n xs e h = rw e (sym (missing-filled s n xs h.least h.apart))

pub before_again : (s t n first : ℕ) (xs : List ℕ) → t ≡ s → 1 ≤ s → first < n * t → first % t ≡ 0 →
    filled s n xs ≡ with_segment first (filled s n xs)
before_again s t n first xs e least below whole =
    let q = first / s in
    let whole_of : first % s ≡ 0 = rw (← e) whole in
    let below_of : first < n * s = rw (← e) below in
    let is : q * s ≡ first = omega (arith, div-add-mod first s, mul_comm s q, whole_of) in
    let inside : q < n = elim (cases_lt q n) [
      | inl l ↦ l
      | inr g ↦ absurd (omega (arith, mul-le-mul_right s g, is, below_of))
    ] in
    rw (← is) (sym (filled_again s n q xs inside))

pub present_again : (s n first i : ℕ) (xs : List ℕ) → IsKept s n xs →
    IsBinarySearchResult (λ y. nat_cmp y first) xs (Ok i) → filled s n xs ≡ with_segment first (filled s n xs)
present_again s n first i xs h found =
    let at = found_at xs first i found h.rises in
    rw (← at.1) (sym (filled_present s n xs i h.rises at.0))

-- what is neither next nor before it is none of the first segments
pub no_multiple : (s t n first : ℕ) → t ≡ s → 1 ≤ s →
    ((first < n * t) × (first % t ≢ 0)) ⊎ (n * t ≤ first) → first ≢ n * t →
    (k : ℕ) → k < n + 1 → first ≢ k * s
no_multiple s t n first e least where_is ne k below is = elim where_is [
  | inl h ↦ h.1 (rw (is, e) (mul_mod k s))
  | inr h ↦ elim (cases_eq k n) [
    | inl same_k ↦ ne (is ∙ rw (same_k, e) refl)
    | inr other ↦ let after : n * s ≤ first = rw (← e) h in
        let distinct = other in
        omega (arith, mul-le-mul_right s (less k n distinct below), is, after, least)
  ]
]
  where
    less : (k n : ℕ) → k ≢ n → k < n + 1 → k + 1 ≤ n
    less k n distinct below = omega arith

    mul_mod : (k s : ℕ) → (k * s) % s ≡ 0
    mul_mod k s = mul-mod_left k s

-- what a receiver keeps once a segment past the gap came
pub record Placed (s n first : ℕ) (xs ys : List ℕ) : Type 0 where
  pub kept : IsKept s n ys
  pub came : filled s n ys ≡ with_segment first (filled s n xs)
  pub longer : length ys ≡ length xs + 1

pub not_full : (m : ℕ) → ((false ≡ true) ↔ (most_segments ≤ m)) → m < most_segments
not_full m h = elim (cases_lt m most_segments) [
  | inl l ↦ l
  | inr g ↦ absurd (true≢false (sym (h.1 g)))
]

-- a segment past the gap is kept
pub inserted : (s n first i : ℕ) (xs ys : List ℕ) → IsKept s n xs → n + length xs < most_segments →
    ((k : ℕ) → k < n + 1 → first ≢ k * s) →
    IsBinarySearchResult (λ y. nat_cmp y first) xs (Err i) → ys ≡ insert xs i first →
    Placed s n first xs ys
inserted s n first i xs ys h few apart found is =
    let at = searched xs first (Err i) found (rising_order xs h.rises) in
    let placed : ys ≡ with_segment first xs = is ∙ insert_is xs i first at.0 at.1 at.2 in
    let long : length ys ≡ length xs + 1 = ap length placed ∙ length-with first xs (absent xs first i found h.rises) in
    record {
      kept = record {
        least = h.least;
        most = h.most;
        few = omega (arith, long, few);
        rises = rw placed (Rises-with first xs h.rises);
        apart = rw placed (IsApart-with s (n + 1) first xs h.apart apart);
      };
      came = ap (filled s n) placed ∙ sym (filled_with s n first xs);
      longer = long;
    }

-- why a segment is refused
pub full_length : (s n : ℕ) (xs : List ℕ) → IsKept s n xs → most_segments ≤ n + length xs →
    length (filled s n xs) < most_segments → ⊥
full_length s n xs h full below =
    let long = length-filled s n xs h.least (λ k inside. h.apart k (omega (arith, inside))) in
    omega (arith, long, full, below)

pub next_absent : (s t n first : ℕ) (xs : List ℕ) → t ≡ s → IsKept s n xs → first ≡ n * t →
    contains first (filled s n xs) ≡ false
next_absent s t n first xs e h is =
    let whole : first ≡ n * s = is ∙ ap (λ j. n * j) e in
    rw whole (lacks-filled s n n xs h.least (omega arith) (h.apart n (omega arith)))

lacks-others : (s n v : ℕ) (xs : List ℕ) → ((k : ℕ) → k < n → v ≢ k * s) → contains v xs ≡ false →
    contains v (filled s n xs) ≡ false
lacks-others s zero v xs ne h = h
lacks-others s (suc n) v xs ne h =
    contains-with v (n * s) (filled s n xs)
    ∙ rw (ne_eqb (n * s) v (λ e. ne n (omega arith) (sym e)), lacks-others s n v xs (λ k below. ne k (omega (arith, below))) h)

pub other_absent : (s n first i : ℕ) (xs : List ℕ) → IsKept s n xs →
    ((k : ℕ) → k < n + 1 → first ≢ k * s) → IsBinarySearchResult (λ y. nat_cmp y first) xs (Err i) →
    contains first (filled s n xs) ≡ false
other_absent s n first i xs h ne found =
    lacks-others s n first xs (λ k below. ne k (omega (arith, below))) (absent xs first i found h.rises)

pub other_next : (s t n first : ℕ) (xs : List ℕ) → t ≡ s → IsKept s n xs → first ≢ n * t →
    first ≡ missing s (filled s n xs) → ⊥
other_next s t n first xs e h ne is = ne (is ∙ sym (next_is s t n xs e h))

pub next_again : (s t n : ℕ) (xs : List ℕ) → t ≡ s → IsKept t n xs → n * t ≡ missing s (filled s n xs)
next_again s t n xs e h = let P : ℕ → Type 0 = λ r. n * t ≡ missing r (filled r n xs) in
    subst P e (next_is t t n xs refl h)

-- the laws
pub segments_are_a_set : SegmentsAreASet
segments_are_a_set a b came = (commutes a b came, repeated a came)

gap_from : (n smss : ℕ) (came : List ℕ) (from : ℕ) → from ≤ first_gap n smss came from
gap_from zero smss came from = omega arith
gap_from (suc n) smss came from = cond_both (contains from came) _ from (λ g. from ≤ g)
    (λ _. omega (arith, gap_from n smss came (from + smss))) (λ _. omega arith)

-- a longer search over more segments goes at least as far
gap_grows : (n m smss : ℕ) (xs ys : List ℕ) (from : ℕ) → n ≤ m →
    ((v : ℕ) → contains v xs ≡ true → contains v ys ≡ true) →
    first_gap n smss xs from ≤ first_gap m smss ys from
gap_grows zero m smss xs ys from le more = gap_from m smss ys from
gap_grows (suc n) zero smss xs ys from le more = absurd (omega (arith, le))
gap_grows (suc n) (suc m) smss xs ys from le more =
    let later = gap_grows n m smss xs ys (from + smss) (omega (arith, le)) more in
    cond_both (contains from xs) _ from (λ g. g ≤ first_gap (suc m) smss ys from)
    (λ e. rw (more from e) later)
    (λ _. gap_from (suc m) smss ys from)

with_length : (a : ℕ) (xs : List ℕ) → length xs ≤ length (with_segment a xs)
with_length a [] = omega arith
with_length a (x ∷ xs) = elim (cases_order a x) [
  | inl e ↦ rw (same a x xs e) (omega arith)
  | inr (inl l) ↦ rw (lower a x xs l) (omega arith)
  | inr (inr g) ↦ rw (higher a x xs g) (omega (arith, with_length a xs))
]

pub number_never_falls : NumberNeverFalls
number_never_falls smss first came =
    gap_grows (length came) (length (with_segment first came)) smss came (with_segment first came) 0
    (with_length first came)
    (λ v e. contains-with v first came ∙ rw e (or_right (first == v) true refl))
