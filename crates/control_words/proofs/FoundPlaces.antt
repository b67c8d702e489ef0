-- What a search from the front finds.
use Rattle.std.proofs.Common.{◌≡◌, ℕ, ◌<◌, ◌≤◌, eqb, Bool, List, length, position, Option, Some, None, sym, ap, ◌∙◌, arith}
use Rattle.std.specs.List.{position_or_len}
use Rattle.std.proofs.lemmas.Bool.{false_from_ne_true, lt-ltb, le-ltb, cond-true, cond-false}
use Rattle.std.proofs.lemmas.List.Sums.{position_or_len_is}
use Rattle.memchr.specs.Find.{IsFirstByte, is_byte}

none_there : (p : ℕ → Bool) (bytes : List ℕ) → length bytes ≤ position_or_len p bytes → None ≡ position p bytes
none_there p bytes le = sym (cond-false _ _ _ (le-ltb (position_or_len p bytes) (length bytes) le))

first_there : (p : ℕ → Bool) (bytes : List ℕ) (k : ℕ) → position_or_len p bytes ≡ k → k < length bytes → Some k ≡ position p bytes
first_there p bytes k is lt = ap (λ i. Some i) (sym is) ∙ sym (cond-true _ _ _ (lt-ltb (position_or_len p bytes) (length bytes) (omega arith)))

pub first_byte_is : (c : ℕ) (bytes : List ℕ) (r : Option ℕ) → IsFirstByte (is_byte c) bytes r → r ≡ position (λ b. eqb b c) bytes
first_byte_is c bytes None nowhere =
    let is = position_or_len_is (λ b. eqb b c) bytes (length bytes) 0 (omega arith) (λ k lt. false_from_ne_true _ (nowhere k (omega arith) lt)) (λ lt. absurd (omega arith)) in
    none_there (λ b. eqb b c) bytes (omega arith)
first_byte_is c bytes (Some k) found =
    let inside : k < length bytes = found.0.high in
    let is = position_or_len_is (λ b. eqb b c) bytes k 0 (omega arith) (λ j lt. false_from_ne_true _ (found.0.before j (omega arith) lt)) (λ lt. found.1) in
    first_there (λ b. eqb b c) bytes k is inside
