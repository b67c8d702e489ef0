-- A set of numbers as bits in three levels.
use Rattle.std.proofs.Common.{◌≡◌, ◌≢◌, ℕ, zero, suc, ◌+◌, ◌*◌, ◌/◌, ◌%◌, ◌<◌, ◌≤◌, Bool, true, false, not, ◌==◌, nat_lt, cond, List, [], ◌∷◌, length, get_or, set, refl, sym, ap, ◌∙◌, subst, inl, inr, arith}
use Rattle.std.specs.Prelude.{◌^◌, slice_index, bit_and, bit_or}
use Rattle.std.specs.Int.{bit_at, bit_not, w64}
use Rattle.std.proofs.lemmas.Bool.{cases_eq, cases_lt, eq-eqb, ne_eqb, eqb-true, lt-ltb, le-ltb, ltb-true, cases_Bool}
use Rattle.std.proofs.lemmas.List.{length-set, get_or-set_same, get_or-set_other}
use Rattle.std.proofs.lemmas.Nat.Bits.{bit_at-zero, bit_at_set_same, bit_at_set_other, bit_at_clear_same, bit_at_clear_other}
use Rattle.sources.specs.declared.numbers.NumberSet.{NumberSet}
use Rattle.sources.specs.Numbers.{flag, is_in, IsOver, IsWhole, IsLowest}

flag-one : (b : Bool) → (flag b == 1) ≡ b
flag-one true = refl
flag-one false = refl

flag-true : (b : Bool) → flag b ≡ 1 → b ≡ true
flag-true true e = refl
flag-true false e = absurd (omega (arith, e))

-- a word of which a bit is another now
pub record IsWith (word place : ℕ) (b : Bool) (new : ℕ) : Type 0 where
  pub bits : (i : ℕ) → i < 64 → bit_at new i ≡ cond (i == place) (flag b) (bit_at word i)

with_same : (word place new : ℕ) (b : Bool) → place < 64 → IsWith word place b new → bit_at new place ≡ flag b
with_same word place new b l h =
    h.bits place l ∙ ap (λ e. cond e (flag b) (bit_at word place)) (eq-eqb place place refl)

with_other : (word place new i : ℕ) (b : Bool) → i < 64 → i ≢ place → IsWith word place b new → bit_at new i ≡ bit_at word i
with_other word place new i b l ne h =
    h.bits i l ∙ ap (λ e. cond e (flag b) (bit_at word i)) (ne_eqb i place ne)

-- a number comes or goes in the lowest level
pub in-set : (xs : List ℕ) (k j bits : ℕ) (b : Bool) → k / 64 < length xs →
    IsWith (slice_index xs (k / 64)) (k % 64) b bits →
    (bit_at (slice_index (set xs (k / 64) bits) (j / 64)) (j % 64) == 1)
    ≡ cond (j == k) b (bit_at (slice_index xs (j / 64)) (j % 64) == 1)
in-set xs k j bits b l h =
    let new = set xs (k / 64) bits in
    let old = bit_at (slice_index xs (j / 64)) (j % 64) == 1 in
    elim (cases_eq (j / 64) (k / 64)) [
      | inl e ↦
          let here : slice_index new (j / 64) ≡ bits =
          ap (slice_index new) e ∙ get_or-set_same xs (k / 64) bits 0 l in
          let there : slice_index xs (j / 64) ≡ slice_index xs (k / 64) = ap (slice_index xs) e in
          elim (cases_eq (j % 64) (k % 64)) [
            | inl m ↦
                let same : j ≡ k = omega (arith, e, m) in
                ap (λ w. bit_at w (j % 64) == 1) here
                ∙ ap (λ i. bit_at bits i == 1) m
                ∙ ap (λ n. n == 1) (with_same (slice_index xs (k / 64)) (k % 64) bits b (omega arith) h)
                ∙ flag-one b
                ∙ sym (ap (λ c. cond c b old) (eq-eqb j k same))
            | inr ne ↦
                ap (λ w. bit_at w (j % 64) == 1) here
                ∙ ap (λ n. n == 1) (with_other (slice_index xs (k / 64)) (k % 64) bits (j % 64) b (omega arith) ne h)
                ∙ ap (λ w. bit_at w (j % 64) == 1) (sym there)
                ∙ sym (ap (λ c. cond c b old) (ne_eqb j k (λ q. ne (ap (λ n. n % 64) q))))
          ]
      | inr ne ↦
          ap (λ w. bit_at w (j % 64) == 1) (get_or-set_other xs (k / 64) (j / 64) bits 0 ne)
          ∙ sym (ap (λ c. cond c b old) (ne_eqb j k (λ q. ne (ap (λ n. n / 64) q))))
    ]

-- a word changes, and the bit of the upper level that tells of it
pub over-set : (xs ys : List ℕ) (w bits upper : ℕ) (b : Bool) → w < length xs → w / 64 < length ys →
    b ≡ nat_lt 0 bits → IsWith (slice_index ys (w / 64)) (w % 64) b upper →
    IsOver xs ys → IsOver (set xs w bits) (set ys (w / 64) upper)
over-set xs ys w bits upper b lx ly is h over = λ i.
    let new = set ys (w / 64) upper in
    elim (cases_eq i w) [
      | inl e ↦
          ap (λ i. bit_at (slice_index new (i / 64)) (i % 64)) e
          ∙ ap (λ n. bit_at n (w % 64)) (get_or-set_same ys (w / 64) upper 0 ly)
          ∙ with_same (slice_index ys (w / 64)) (w % 64) upper b (omega arith) h
          ∙ ap flag is
          ∙ sym (ap (λ n. flag (nat_lt 0 n)) (ap (slice_index (set xs w bits)) e ∙ get_or-set_same xs w bits 0 lx))
      | inr ne ↦
          let below : flag (nat_lt 0 (slice_index xs i)) ≡ flag (nat_lt 0 (slice_index (set xs w bits) i)) =
          sym (ap (λ n. flag (nat_lt 0 n)) (get_or-set_other xs w i bits 0 ne)) in
          elim (cases_eq (i / 64) (w / 64)) [
            | inl g ↦
                let other : i % 64 ≢ w % 64 = λ m. ne (let same : i ≡ w = omega (arith, g, m) in same) in
                ap (λ n. bit_at n (i % 64)) (ap (slice_index new) g ∙ get_or-set_same ys (w / 64) upper 0 ly)
                ∙ with_other (slice_index ys (w / 64)) (w % 64) upper (i % 64) b (omega arith) other h
                ∙ ap (λ n. bit_at n (i % 64)) (sym (ap (slice_index ys) g))
                ∙ over i ∙ below
            | inr g ↦
                ap (λ n. bit_at n (i % 64)) (get_or-set_other ys (w / 64) (i / 64) upper 0 g)
                ∙ over i ∙ below
          ]
    ]

-- the last level has one word
pub over-set_any : (xs : List ℕ) (w bits any upper : ℕ) (b : Bool) → w < length xs → w < 64 →
    b ≡ nat_lt 0 bits → IsWith any w b upper →
    IsOver xs (any ∷ []) → IsOver (set xs w bits) (upper ∷ [])
over-set_any xs w bits any upper b lx small is h over =
    let none : w / 64 ≡ 0 = omega arith in
    let same : w % 64 ≡ w = omega arith in
    let with : IsWith (slice_index (any ∷ []) (w / 64)) (w % 64) b upper =
    subst (λ n. IsWith (slice_index (any ∷ []) n) (w % 64) b upper) (sym none)
    (subst (λ n. IsWith any n b upper) (sym same) h) in
    subst (λ n. IsOver (set xs w bits) (set (any ∷ []) n upper)) none
    (over-set xs (any ∷ []) w bits upper b lx (let l : w / 64 < 1 = omega (arith, none) in l) is with over)

set_positive : (n i : ℕ) → bit_at n i ≡ 1 → 0 < n
set_positive zero i e = let bad : 0 ≡ 1 = sym (bit_at-zero i) ∙ e in absurd (omega (arith, bad))
set_positive (suc n) i e = omega arith

up : (xs ys : List ℕ) (i : ℕ) → IsOver xs ys → 0 < slice_index xs i → bit_at (slice_index ys (i / 64)) (i % 64) ≡ 1
up xs ys i over pos = over i ∙ ap flag (lt-ltb 0 (slice_index xs i) pos)

down : (xs ys : List ℕ) (i : ℕ) → IsOver xs ys → bit_at (slice_index ys (i / 64)) (i % 64) ≡ 1 → 0 < slice_index xs i
down xs ys i over e = ltb-true 0 (slice_index xs i) (flag-true _ (sym (over i) ∙ e))

pub within : (xs : List ℕ) (i : ℕ) → 0 < slice_index xs i → i < length xs
within [] i h = absurd (omega (arith, h))
within (x ∷ xs) zero h = omega arith
within (x ∷ xs) (suc i) h = let l = within xs i h in omega (arith, l)

module _ (s : NumberSet) (whole : IsWhole s) where
  -- a number that is in is seen on all levels
  pub record IsSeen (j : ℕ) : Type 0 where
    pub word : bit_at (slice_index s.words.items (j / 64)) (j % 64) ≡ 1
    pub some : bit_at (slice_index s.some (j / 64 / 64)) (j / 64 % 64) ≡ 1
    pub any : bit_at s.any (j / 64 / 64) ≡ 1

  one_word : (n i : ℕ) → bit_at (slice_index (n ∷ []) (i / 64)) (i % 64) ≡ 1 → bit_at n i ≡ 1
  one_word n i e =
      let low : i / 64 < 1 = within (n ∷ []) (i / 64) (set_positive _ (i % 64) e) in
      let none : i / 64 ≡ 0 = omega (arith, low) in
      let same : i % 64 ≡ i = omega (arith, none) in
      sym (ap (bit_at n) same) ∙ sym (ap (λ k. bit_at (slice_index (n ∷ []) k) (i % 64)) none) ∙ e

  pub seen : (j : ℕ) → is_in s j ≡ true → IsSeen j
  seen j h =
      let word : bit_at (slice_index s.words.items (j / 64)) (j % 64) ≡ 1 = eqb-true _ 1 h in
      let some = up s.words.items s.some (j / 64) whole.some (set_positive _ (j % 64) word) in
      let any = up s.some (s.any ∷ []) (j / 64 / 64) whole.any (set_positive _ (j / 64 % 64) some) in
      record { word = word; some = some; any = one_word s.any (j / 64 / 64) any }

  pub none_in : s.any ≡ 0 → (k : ℕ) → is_in s k ≡ false
  none_in e k = elim (cases_Bool (is_in s k)) [
    | inl t ↦
        let h = seen k t in
        let bad = set_positive s.any (k / 64 / 64) h.any in
        absurd (omega (arith, bad, e))
    | inr f ↦ f
  ]

  -- downward, from level to level
  pub some_there : (a : ℕ) → IsLowest s.any a → 0 < slice_index s.some a
  some_there a h =
      let none : a / 64 ≡ 0 = omega (arith, h.within) in
      let same : a % 64 ≡ a = omega (arith, h.within) in
      down s.some (s.any ∷ []) a whole.any
      (ap (λ k. bit_at (slice_index (s.any ∷ []) k) (a % 64)) none ∙ ap (bit_at s.any) same ∙ h.here)

  pub word_there : (a b : ℕ) → IsLowest (slice_index s.some a) b → 0 < slice_index s.words.items (a * 64 + b)
  word_there a b h =
      let upper : (a * 64 + b) / 64 ≡ a = omega (arith, h.within) in
      let lower : (a * 64 + b) % 64 ≡ b = omega (arith, h.within) in
      down s.words.items s.some (a * 64 + b) whole.some
      (ap (λ k. bit_at (slice_index s.some k) ((a * 64 + b) % 64)) upper
      ∙ ap (bit_at (slice_index s.some a)) lower ∙ h.here)

  pub is_there : (a b c : ℕ) → IsLowest (slice_index s.words.items (a * 64 + b)) c → is_in s ((a * 64 + b) * 64 + c) ≡ true
  is_there a b c h =
      let k = (a * 64 + b) * 64 + c in
      let upper : k / 64 ≡ a * 64 + b = omega (arith, h.within) in
      let lower : k % 64 ≡ c = omega (arith, h.within) in
      let bit : bit_at (slice_index s.words.items (k / 64)) (k % 64) ≡ 1 =
      ap (λ i. bit_at (slice_index s.words.items i) (k % 64)) upper
      ∙ ap (bit_at (slice_index s.words.items (a * 64 + b))) lower ∙ h.here in
      eq-eqb _ 1 bit

  not_below : (n k i : ℕ) → IsLowest n k → bit_at n i ≡ 1 → k ≤ i
  not_below n k i h e = elim (cases_lt i k) [
    | inl l ↦ let bad : 0 ≡ 1 = sym (h.below i l) ∙ e in absurd (omega (arith, bad))
    | inr l ↦ l
  ]

  pub is_least : (a b c : ℕ) → IsLowest s.any a → IsLowest (slice_index s.some a) b →
      IsLowest (slice_index s.words.items (a * 64 + b)) c → (j : ℕ) → is_in s j ≡ true → (a * 64 + b) * 64 + c ≤ j
  is_least a b c ha hb hc j h =
      let at = seen j h in
      let first : a ≤ j / 64 / 64 = not_below s.any a (j / 64 / 64) ha at.any in
      elim (cases_eq (j / 64 / 64) a) [
        | inl e ↦
            let second : b ≤ j / 64 % 64 = not_below (slice_index s.some a) b (j / 64 % 64) hb
            (sym (ap (λ i. bit_at (slice_index s.some i) (j / 64 % 64)) e) ∙ at.some) in
            elim (cases_eq (j / 64 % 64) b) [
              | inl f ↦
                  let word : j / 64 ≡ a * 64 + b = omega (arith, e, f) in
                  let third : c ≤ j % 64 = not_below (slice_index s.words.items (a * 64 + b)) c (j % 64) hc
                  (sym (ap (λ i. bit_at (slice_index s.words.items i) (j % 64)) word) ∙ at.word) in
                  omega (arith, word, third)
              | inr f ↦ omega (arith, e, second, f, hb.within, hc.within)
            ]
        | inr e ↦ omega (arith, first, e, hb.within, hc.within)
      ]

-- `|` and `&` of one bit
pub bit_set : (n k i : ℕ) (b : Bool) → k < 64 → i < 64 → b ≡ true →
    bit_at (bit_or n (1 * 2 ^ k % 2 ^ 64)) i ≡ cond (i == k) (flag b) (bit_at n i)
bit_set n k i b lk li e = elim (cases_eq i k) [
  | inl same ↦
      ap (bit_at (bit_or n (1 * 2 ^ k % 2 ^ 64))) same ∙ bit_at_set_same w64 n k lk ∙ sym (ap flag e)
      ∙ sym (ap (λ c. cond c (flag b) (bit_at n i)) (eq-eqb i k same))
  | inr ne ↦
      bit_at_set_other w64 n k lk i ne ∙ sym (ap (λ c. cond c (flag b) (bit_at n i)) (ne_eqb i k ne))
]

pub bit_cleared : (n k i : ℕ) (b : Bool) → k < 64 → i < 64 → b ≡ false →
    bit_at (bit_and n (bit_not w64 (1 * 2 ^ k % 2 ^ 64))) i ≡ cond (i == k) (flag b) (bit_at n i)
bit_cleared n k i b lk li e = elim (cases_eq i k) [
  | inl same ↦
      ap (bit_at (bit_and n (bit_not w64 (1 * 2 ^ k % 2 ^ 64)))) same ∙ bit_at_clear_same w64 n k lk ∙ sym (ap flag e)
      ∙ sym (ap (λ c. cond c (flag b) (bit_at n i)) (eq-eqb i k same))
  | inr ne ↦
      bit_at_clear_other w64 n k lk i li ne ∙ sym (ap (λ c. cond c (flag b) (bit_at n i)) (ne_eqb i k ne))
]

pub read : (xs : List ℕ) (i x : ℕ) → i < length xs → x ≡ get_or xs i x → slice_index xs i ≡ x
read [] i x l at = absurd (omega (arith, l))
read (y ∷ xs) zero x l at = sym at
read (y ∷ xs) (suc i) x l at = read xs i x (omega (arith, l)) at

pub with_by : (word word' place place' new : ℕ) (b : Bool) → word' ≡ word → place' ≡ place →
    ((i : ℕ) → i < 64 → bit_at new i ≡ cond (i == place') (flag b) (bit_at word' i)) → IsWith word place b new
with_by word word' place place' new b e f h = record {
  bits = λ i l. h i l ∙ (λ t. cond (i == f t) (flag b) (bit_at (e t) i));
}

-- a number comes or goes, by the place of its word
pub in-set_at : (xs : List ℕ) (k j w bits : ℕ) (b : Bool) → w ≡ k / 64 → k / 64 < length xs →
    IsWith (slice_index xs (k / 64)) (k % 64) b bits →
    (bit_at (slice_index (set xs w bits) (j / 64)) (j % 64) == 1)
    ≡ cond (j == k) b (bit_at (slice_index xs (j / 64)) (j % 64) == 1)
in-set_at xs k j w bits b f l h =
    ap (λ n. bit_at (slice_index (set xs n bits) (j / 64)) (j % 64) == 1) f ∙ in-set xs k j bits b l h

pub whole-set : (s t : NumberSet) (w bits some any : ℕ) (b c : Bool) → w < length s.words.items → w < 1024 →
    t.words.items ≡ set s.words.items w bits → t.some ≡ set s.some (w / 64) some → t.any ≡ any →
    b ≡ nat_lt 0 bits → c ≡ nat_lt 0 some →
    IsWith (slice_index s.some (w / 64)) (w % 64) b some → IsWith s.any (w / 64) c any →
    IsWhole s → IsWhole t
whole-set s t w bits some any b c l small ew es ea eb ec hs ha h =
    let group : w / 64 < length s.some = omega (arith, small, h.groups) in
    record {
      groups = ap length es ∙ length-set s.some (w / 64) some ∙ h.groups;
      some = subst (λ xs. IsOver xs t.some) (sym ew) (subst (IsOver (set s.words.items w bits)) (sym es)
          (over-set s.words.items s.some w bits some b l group eb hs h.some));
      any = subst (λ xs. IsOver xs (t.any ∷ [])) (sym es) (subst (λ n. IsOver (set s.some (w / 64) some) (n ∷ [])) (sym ea)
          (over-set_any s.some (w / 64) some s.any any c group (omega (arith, small)) ec ha h.any));
    }

pub positive : (n : ℕ) → not (n == 0) ≡ nat_lt 0 n
positive zero = ap not (eq-eqb 0 0 refl) ∙ sym (le-ltb 0 0 (omega arith))
positive (suc n) = ap not (ne_eqb (suc n) 0 (λ e. absurd (omega (arith, e)))) ∙ sym (lt-ltb 0 (suc n) (omega arith))

pub over_same : (xs new ys : List ℕ) → ((i : ℕ) → slice_index new i ≡ slice_index xs i) → IsOver xs ys → IsOver new ys
over_same xs new ys e h = λ i. h i ∙ sym (ap (λ n. flag (nat_lt 0 n)) (e i))
