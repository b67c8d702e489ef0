-- A bit for each number.
use Rattle.std.proofs.Common.{◌≡◌, ◌≢◌, ℕ, zero, suc, ◌+◌, ◌*◌, ◌/◌, ◌%◌, ◌^◌, ◌<◌, cond, Bool, true, false, not, eqb, List, [], ◌∷◌, ◌++◌, length, refl, sym, ap, ◌∙◌, arith}
use Rattle.std.specs.Prelude.{get_or, set, bit_and, bit_or}
use Rattle.std.proofs.lemmas.Bool.{eqb-false, eqb-true}
use Rattle.std.proofs.Math.Dec.{eqb-suc-zero}
use Rattle.std.proofs.lemmas.List.{get_or-set_same, get_or-set_other}
use Rattle.std.proofs.lemmas.Nat.{and_or_self, and_or_apart, pow_apart, pow_pos, div-add-mod'}
use Rattle.session.specs.Marking.{MarksOne, is_marked}

-- a byte of no mark more
pub pushed : (bytes : List ℕ) (n : ℕ) → get_or (bytes ++ 0 ∷ []) n 0 ≡ get_or bytes n 0
pushed [] zero = refl
pushed [] (suc n) = refl
pushed (b ∷ bytes) zero = refl
pushed (b ∷ bytes) (suc n) = pushed bytes n

abbrev tests : ℕ → Bool
tests n = not (eqb n 0)

no-zero : (n : ℕ) → 0 < n → tests n ≡ true
no-zero zero up = absurd (omega (arith, up))
no-zero (suc n) up = ap not (eqb-suc-zero n)

bit-same : (b j : ℕ) → tests (bit_and (bit_or b (2 ^ j)) (2 ^ j)) ≡ true
bit-same b j = ap tests (and_or_self (2 ^ j) b) ∙ no-zero (2 ^ j) (pow_pos j)

bit-other : (b i j : ℕ) → j ≢ i → tests (bit_and (bit_or b (2 ^ j)) (2 ^ i)) ≡ tests (bit_and b (2 ^ i))
bit-other b i j other = ap tests (and_or_apart (2 ^ i) b (2 ^ j) (pow_apart j i other))

-- one bit of one byte is set
pub marked-one : (was bytes new : List ℕ) (number : ℕ) → ((n : ℕ) → get_or bytes n 0 ≡ get_or was n 0) → number / 8 < length bytes →
    new ≡ set bytes (number / 8) (bit_or (get_or bytes (number / 8) 0) (2 ^ (number % 8))) → MarksOne number was new
marked-one was bytes new number same within is n = by (eqb n number) refl
  where
    k : ℕ
    k = number / 8

    j : ℕ
    j = number % 8

    at : ℕ → ℕ
    at m = get_or (set bytes k (bit_or (get_or bytes k 0) (2 ^ j))) m 0

    reads : is_marked new n ≡ tests (bit_and (at (n / 8)) (2 ^ (n % 8)))
    reads = ap (λ (l : List ℕ). is_marked l n) is

    other : (c : Bool) → eqb (n / 8) k ≡ c → eqb n number ≡ false → tests (bit_and (at (n / 8)) (2 ^ (n % 8))) ≡ tests (bit_and (get_or bytes (n / 8) 0) (2 ^ (n % 8)))
    other true e differ =
        let place : n / 8 ≡ k = eqb-true (n / 8) k e in
        let apart : j ≢ n % 8 = λ s. eqb-false n number differ (sym (div-add-mod' n 8) ∙ ap (λ q. q * 8 + n % 8) place ∙ ap (λ r. k * 8 + r) (sym s) ∙ div-add-mod' number 8) in
        ap (λ m. tests (bit_and (at m) (2 ^ (n % 8)))) place
        ∙ ap (λ b. tests (bit_and b (2 ^ (n % 8)))) (get_or-set_same bytes k (bit_or (get_or bytes k 0) (2 ^ j)) 0 within)
        ∙ bit-other (get_or bytes k 0) (n % 8) j apart
        ∙ ap (λ m. tests (bit_and (get_or bytes m 0) (2 ^ (n % 8)))) (sym place)
    other false e differ =
        ap (λ b. tests (bit_and b (2 ^ (n % 8)))) (get_or-set_other bytes k (n / 8) (bit_or (get_or bytes k 0) (2 ^ j)) 0 (eqb-false (n / 8) k e))

    by : (b : Bool) → eqb n number ≡ b → is_marked new n ≡ cond b true (is_marked was n)
    by true e =
        let is_it : n ≡ number = eqb-true n number e in
        reads
        ∙ ap (λ m. tests (bit_and (at (m / 8)) (2 ^ (m % 8)))) is_it
        ∙ ap (λ b. tests (bit_and b (2 ^ j))) (get_or-set_same bytes k (bit_or (get_or bytes k 0) (2 ^ j)) 0 within)
        ∙ bit-same (get_or bytes k 0) j
    by false e =
        reads ∙ other (eqb (n / 8) k) refl e ∙ ap (λ b. tests (bit_and b (2 ^ (n % 8)))) (same (n / 8))
