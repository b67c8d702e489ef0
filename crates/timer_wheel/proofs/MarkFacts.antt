-- One mark set or taken away.
use Rattle.std.proofs.Common.{inl, inr, ◌≡◌, ◌≢◌, ℕ, zero, suc, true, false, ◌-◌, ◌*◌, ◌/◌, ◌%◌, ◌^◌, ◌<◌, ◌≤◌, ◌+◌, ◌==◌, cond, List, [], ◌∷◌, length, get_or, refl, sym, ap, ◌∙◌, eq-eqb, arith, bit_and, bit_or, w64}
use Rattle.std.proofs.Math.ListN.{set}
use Rattle.std.proofs.lemmas.List.{get_or-set_same, get_or-set_other}
use Rattle.std.proofs.lemmas.Bool.{cases_eq, cases_lt, ne_eqb}
use Rattle.std.proofs.lemmas.Nat.Bits.{bit_at_set_same, bit_at_set_other, bit_at_clear_same, bit_at_clear_other, bit_at-zero, bit_at-trailing_zeros}
use Rattle.std.specs.Int.{bit_at, trailing_zeros}
use Rattle.timer_wheel.specs.Marks.{mark_at}

-- a word that has another bit at one place alone
word_changed : (ws : List ℕ) (p q word b : ℕ) → p / 64 < length ws
    → bit_at word (p % 64) ≡ b
    → ((i : ℕ) → i < 64 → i ≢ p % 64 → bit_at word i ≡ bit_at (get_or ws (p / 64) 0) i)
    → bit_at (get_or (set ws (p / 64) word) (q / 64) 0) (q % 64) ≡ cond (q == p) b (bit_at (get_or ws (q / 64) 0) (q % 64))
word_changed ws p q word b within same other =
    elim (cases_eq q p) [
      | inl e ↦ let t : (q == p) ≡ true = eq-eqb q p e in
          ap (λ n. bit_at (get_or (set ws (p / 64) word) (n / 64) 0) (n % 64)) e
          ∙ ap (λ w. bit_at w (p % 64)) (get_or-set_same ws (p / 64) word 0 within)
          ∙ same
          ∙ sym (ap (λ c. cond c b (bit_at (get_or ws (q / 64) 0) (q % 64))) t)
      | inr ne ↦ let f : (q == p) ≡ false = ne_eqb q p ne in
          let back : bit_at (get_or ws (q / 64) 0) (q % 64) ≡ cond (q == p) b (bit_at (get_or ws (q / 64) 0) (q % 64)) = sym (ap (λ c. cond c b (bit_at (get_or ws (q / 64) 0) (q % 64))) f) in
          elim (cases_eq (q / 64) (p / 64)) [
            | inl h ↦ let low : q % 64 < 64 = omega arith in
                let apart : q % 64 ≢ p % 64 = λ e. ne (omega arith) in
                ap (λ n. bit_at (get_or (set ws (p / 64) word) n 0) (q % 64)) h
                ∙ ap (λ w. bit_at w (q % 64)) (get_or-set_same ws (p / 64) word 0 within)
                ∙ other (q % 64) low apart
                ∙ sym (ap (λ n. bit_at (get_or ws n 0) (q % 64)) h)
                ∙ back
            | inr far ↦ ap (λ w. bit_at w (q % 64)) (get_or-set_other ws (p / 64) (q / 64) word 0 far) ∙ back
          ]
    ]

pub marked : (ws : List ℕ) (p q : ℕ) → p / 64 < length ws
    → mark_at (record { words = set ws (p / 64) (bit_or (get_or ws (p / 64) 0) (1 * 2 ^ (p % 64) % 18446744073709551616)) }) q ≡ cond (q == p) 1 (mark_at (record { words = ws }) q)
unfolding mark_at
marked ws p q within =
    let low : p % 64 < 64 = omega arith in
    word_changed ws p q _ 1 within
    (bit_at_set_same w64 (get_or ws (p / 64) 0) (p % 64) low)
    (λ i _ apart. bit_at_set_other w64 (get_or ws (p / 64) 0) (p % 64) low i apart)

pub unmarked : (ws : List ℕ) (p q : ℕ) → p / 64 < length ws
    → mark_at (record { words = set ws (p / 64) (bit_and (get_or ws (p / 64) 0) (18446744073709551615 - 1 * 2 ^ (p % 64) % 18446744073709551616)) }) q ≡ cond (q == p) 0 (mark_at (record { words = ws }) q)
unfolding mark_at
unmarked ws p q within =
    let low : p % 64 < 64 = omega arith in
    word_changed ws p q _ 0 within
    (bit_at_clear_same w64 (get_or ws (p / 64) 0) (p % 64) low)
    (λ i small apart. bit_at_clear_other w64 (get_or ws (p / 64) 0) (p % 64) low i small apart)

-- all words 0
abbrev pub AllZero : List ℕ → Type 0
AllZero [] = Unit {0}
AllZero (x ∷ ws) = (x ≡ 0) × AllZero ws

all_zero : (ws : List ℕ) → AllZero ws → (i : ℕ) → get_or ws i 0 ≡ 0
all_zero [] z i = refl
all_zero (x ∷ ws) z zero = z.0
all_zero (x ∷ ws) z (suc i) = all_zero ws z.1 i

pub unmarked_at_first : (ws : List ℕ) → AllZero ws → (q : ℕ) → mark_at (record { words = ws }) q ≡ 0
unfolding mark_at
unmarked_at_first ws z q = ap (λ w. bit_at w (q % 64)) (all_zero ws z (q / 64)) ∙ bit_at-zero (q % 64)

module _ (ws : List ℕ) (i : ℕ) where
  word_mark : (t : ℕ) → t < 64 → mark_at (record { words = ws }) (i * 64 + t) ≡ bit_at (get_or ws i 0) t
  unfolding mark_at
  word_mark t low =
      let d : (i * 64 + t) / 64 ≡ i = omega arith in
      let m : (i * 64 + t) % 64 ≡ t = omega arith in
      λ k. bit_at (get_or ws (d k) 0) (m k)

  word_marks : (q : ℕ) → i * 64 ≤ q → q < (i + 1) * 64 → mark_at (record { words = ws }) q ≡ bit_at (get_or ws i 0) (q - i * 64)
  word_marks q above below =
      let low : q - i * 64 < 64 = omega arith in
      let same : q ≡ i * 64 + (q - i * 64) = omega arith in
      ap (mark_at (record { words = ws })) same ∙ word_mark (q - i * 64) low

  module _ (nonzero : get_or ws i 0 ≢ 0) (small : get_or ws i 0 < 2 ^ 64) where
    trailing : (trailing_zeros w64 (get_or ws i 0) < 64) × (bit_at (get_or ws i 0) (trailing_zeros w64 (get_or ws i 0)) ≡ 1) × ((k : ℕ) → k < trailing_zeros w64 (get_or ws i 0) → bit_at (get_or ws i 0) k ≡ 0)
    trailing =
        let pos : 0 < get_or ws i 0 = elim (cases_eq 0 (get_or ws i 0)) [ inl e ↦ absurd (nonzero (sym e)) | inr ne ↦ omega arith ] in
        bit_at-trailing_zeros w64 (get_or ws i 0) pos small

    pub first_marked : mark_at (record { words = ws }) (i * 64 + trailing_zeros w64 (get_or ws i 0)) ≡ 1
    first_marked = word_mark (trailing_zeros w64 (get_or ws i 0)) trailing.0 ∙ trailing.1

    pub first_least : ((q : ℕ) → q < i * 64 → mark_at (record { words = ws }) q ≡ 0) → (q : ℕ) → q < i * 64 + trailing_zeros w64 (get_or ws i 0) → mark_at (record { words = ws }) q ≡ 0
    first_least before q h =
        let low : trailing_zeros w64 (get_or ws i 0) < 64 = trailing.0 in
        elim (cases_lt q (i * 64)) [
          | inl l ↦ before q l
          | inr g ↦ let above : i * 64 ≤ q = omega arith in
              let below : q < (i + 1) * 64 = omega arith in
              let under : q - i * 64 < trailing_zeros w64 (get_or ws i 0) = omega arith in
              word_marks q above below ∙ trailing.2 (q - i * 64) under
        ]

  pub none_marked : get_or ws i 0 ≡ 0 → ((q : ℕ) → q < i * 64 → mark_at (record { words = ws }) q ≡ 0) → (q : ℕ) → q < (i + 1) * 64 → mark_at (record { words = ws }) q ≡ 0
  none_marked none before q h =
      elim (cases_lt q (i * 64)) [
        | inl l ↦ before q l
        | inr g ↦ let above : i * 64 ≤ q = omega arith in
            word_marks q above h ∙ ap (λ w. bit_at w (q - i * 64)) none ∙ bit_at-zero (q - i * 64)
      ]
