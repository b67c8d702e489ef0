-- A number of one, two or three digits, as it leads a text.
use Rattle.std.proofs.Common.{◌≡◌, ℕ, ◌+◌, ◌-◌, ◌*◌, ◌<◌, ◌≤◌, ◌&&◌, eqb, not, Bool, true, false, cond, List, [], ◌∷◌, ◌++◌, length, get_or, Option, Some, None, refl, sym, ap, ◌∙◌, arith, lit<}
use Rattle.std.specs.List.{list_all}
use Rattle.std.specs.Char.{is_ascii_digit}
use Rattle.std.proofs.lemmas.Bool.{and_from, and_parts, le-leb, ne_eqb, cond-true}
use Rattle.control_words.specs.Numbers.{digits_after, number_of}
use Rattle.control_lines.specs.PacketLine.{IsNumber, Leads}
use Rattle.control_lines.proofs.PacketWords.{number_is}

digit_is : (a : ℕ) → a ≤ 9 → is_ascii_digit (48 + a) ≡ true
digit_is a le = and_from _ _ (le-leb 48 (48 + a) (omega arith)) (le-leb (48 + a) 57 (omega (arith, le)))

read : (n a : ℕ) (xs : List ℕ) → a ≤ 9 → digits_after n ((48 + a) ∷ xs) ≡ digits_after (n * 10 + a) xs
read n a xs le =
    let same : 48 + a - 48 ≡ a = omega arith in
    cond-true _ _ _ (digit_is a le) ∙ ap (λ k. digits_after (n * 10 + k) xs) same

-- the first of them
start : (a : ℕ) (xs : List ℕ) → a ≤ 9 → digits_after 0 ((48 + a) ∷ xs) ≡ digits_after a xs
start a xs le =
    let same : 0 * 10 + a ≡ a = omega arith in
    read 0 a xs le ∙ ap (λ k. digits_after k xs) same

not_zero : (a : ℕ) → 0 < a → eqb (48 + a) 48 ≡ false
not_zero a some = ne_eqb (48 + a) 48 (λ z. omega (arith, z, some))

pub one_digit : (text rest : List ℕ) (a : ℕ) → text ≡ (48 + a) ∷ rest → a ≤ 9 → Leads IsNumber is_ascii_digit text a rest
one_digit text rest a is le = record {
  front = (48 + a) ∷ [];
  joined = is;
  is = number_is ((48 + a) ∷ []) a (lit< tt) (omega arith) (no_lead (eqb (48 + a) 48)) (start a [] le);
  all = and_from _ _ (digit_is a le) refl;
}
  where
    no_lead : (b : Bool) → (b && false) ≡ false
    no_lead true = refl
    no_lead false = refl

module _ (text after rest : List ℕ) (a b : ℕ) (first : text ≡ (48 + a) ∷ after) (some : 0 < a) (le : a ≤ 9) (le' : b ≤ 9) where
  lead : (n : ℕ) → (eqb (48 + a) 48 && not (eqb n 1)) ≡ false
  lead n = ap (λ z. z && not (eqb n 1)) (not_zero a some)

  pub two_digits : after ≡ (48 + b) ∷ rest → Leads IsNumber is_ascii_digit text (a * 10 + b) rest
  two_digits second =
      let front : List ℕ = (48 + a) ∷ (48 + b) ∷ [] in record {
        front = front;
        joined = first ∙ ap (λ r. (48 + a) ∷ r) second;
        is = number_is front (a * 10 + b) (lit< tt) (omega arith) (lead 2) (start a ((48 + b) ∷ []) le ∙ read a b [] le');
        all = and_from _ _ (digit_is a le) (and_from _ _ (digit_is b le') refl);
      }

  pub three_digits : (behind : List ℕ) (c : ℕ) → after ≡ (48 + b) ∷ rest → rest ≡ (48 + c) ∷ behind → c ≤ 9 → Leads IsNumber is_ascii_digit text ((a * 10 + b) * 10 + c) behind
  three_digits behind c second third le'' =
      let front : List ℕ = (48 + a) ∷ (48 + b) ∷ (48 + c) ∷ [] in record {
        front = front;
        joined = first ∙ ap (λ r. (48 + a) ∷ r) (second ∙ ap (λ r. (48 + b) ∷ r) third);
        is = number_is front ((a * 10 + b) * 10 + c) (lit< tt) (omega arith) (lead 3)
            (start a ((48 + b) ∷ (48 + c) ∷ []) le ∙ (read a b ((48 + c) ∷ []) le' ∙ read (a * 10 + b) c [] le''));
        all = and_from _ _ (digit_is a le) (and_from _ _ (digit_is b le') (and_from _ _ (digit_is c le'') refl));
      }
