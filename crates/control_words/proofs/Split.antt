-- Lines and words, from the front.
use Rattle.std.proofs.Common.{◌≡◌, ℕ, suc, ◌+◌, ◌≤◌, ◌<◌, Bool, true, false, cond, not, ltb, List, [], ◌∷◌, length, get_or, take, drop, Some, None, refl, sym, ap, ◌∙◌, arith, position, add-zero}
use Rattle.std.specs.List.{slice_split, filter, prefix_len, position_or_len, onto_first}
use Rattle.std.proofs.lemmas.Bool.{ltb-true, ltb-false}
use Rattle.std.proofs.lemmas.Option.{cond_some}
use Rattle.std.proofs.lemmas.List.{length-drop, get_or-drop}
use Rattle.std.proofs.lemmas.List.Sums.{prefix_len_stops}
use Rattle.std.proofs.lemmas.List.Splits.{slice_split-cons_yes, slice_split-cons_no, slice_split_first}
use Rattle.control_words.specs.Text.{is_word}

abbrev pub words_by : (ℕ → Bool) → List ℕ → List (List ℕ)
words_by p xs = filter is_word (slice_split p xs)

pub first_part : (p : ℕ → Bool) (xs : List ℕ) (i : ℕ) → position p xs ≡ Some i → slice_split p xs ≡ take i xs ∷ slice_split p (drop (i + 1) xs)
first_part p xs i e =
    let h = cond_some (ltb (position_or_len p xs) (length xs)) (position_or_len p xs) i e in
    rw (← h.1) (slice_split_first p xs 0 (ltb-true _ _ h.0))

none_at : (p : ℕ → Bool) (x : ℕ) (xs : List ℕ) (b : Bool) → p x ≡ b → (length xs ≤ position_or_len p xs → slice_split p xs ≡ xs ∷ []) → length (x ∷ xs) ≤ cond (not b) (1 + position_or_len p xs) 0 → slice_split p (x ∷ xs) ≡ (x ∷ xs) ∷ []
none_at p x xs true e ih h = absurd (omega (arith, h))
none_at p x xs false e ih h = slice_split-cons_no p x xs e ∙ ap (onto_first x) (ih (omega (arith, h)))

none_from : (p : ℕ → Bool) (xs : List ℕ) → length xs ≤ position_or_len p xs → slice_split p xs ≡ xs ∷ []
none_from p [] h = refl
none_from p (x ∷ xs) h = none_at p x xs (p x) refl (none_from p xs) h

some_none : (b : Bool) (i : ℕ) → cond b (Some i) None ≡ None → b ≡ false
some_none true i e = absurd cc
some_none false i e = refl

pub no_part : (p : ℕ → Bool) (xs : List ℕ) → position p xs ≡ None → slice_split p xs ≡ xs ∷ []
no_part p xs e = none_from p xs (ltb-false _ _ (some_none (ltb (position_or_len p xs) (length xs)) (position_or_len p xs) e))

-- spaces in front don't count
skips_at : (p : ℕ → Bool) (x : ℕ) (xs : List ℕ) (b : Bool) → p x ≡ b → words_by p xs ≡ words_by p (drop (prefix_len p xs) xs) → words_by p (x ∷ xs) ≡ words_by p (drop (cond b (1 + prefix_len p xs) 0) (x ∷ xs))
skips_at p x xs true e ih =
    let k : 1 + prefix_len p xs ≡ suc (prefix_len p xs) = omega arith in
    rw k (ap (filter is_word) (slice_split-cons_yes p x xs e) ∙ ih)
skips_at p x xs false e ih = refl

pub skips : (p : ℕ → Bool) (xs : List ℕ) → words_by p xs ≡ words_by p (drop (prefix_len p xs) xs)
skips p [] = refl
skips p (x ∷ xs) = skips_at p x xs (p x) refl (skips p xs)

-- the first part, and the others, of which some may be empty
record FirstPart (p : ℕ → Bool) (xs : List ℕ) (e : ℕ) : Type 0 where
  parts : List (List ℕ)
  split : slice_split p xs ≡ take e xs ∷ parts
  rest : filter is_word parts ≡ words_by p (drop e xs)

part_at : (p : ℕ → Bool) (x : ℕ) (xs : List ℕ) (b : Bool) → p x ≡ b → FirstPart p xs (position_or_len p xs) → FirstPart p (x ∷ xs) (cond (not b) (1 + position_or_len p xs) 0)
part_at p x xs true e ih = record {
  parts = slice_split p xs;
  split = slice_split-cons_yes p x xs e;
  rest = sym (ap (filter is_word) (slice_split-cons_yes p x xs e));
}
part_at p x xs false e ih =
    let k : 1 + position_or_len p xs ≡ suc (position_or_len p xs) = omega arith in
    rw k (record {
      parts = ih.parts;
      split = slice_split-cons_no p x xs e ∙ ap (onto_first x) ih.split;
      rest = ih.rest;
    })

part : (p : ℕ → Bool) (xs : List ℕ) → FirstPart p xs (position_or_len p xs)
part p [] = record { parts = []; split = refl; rest = refl }
part p (x ∷ xs) = part_at p x xs (p x) refl (part p xs)

word_at : (p : ℕ → Bool) (x : ℕ) (xs : List ℕ) (b : Bool) → b ≡ false → p x ≡ b → words_by p (x ∷ xs) ≡ take (cond (not b) (1 + position_or_len p xs) 0) (x ∷ xs) ∷ words_by p (drop (cond (not b) (1 + position_or_len p xs) 0) (x ∷ xs))
word_at p x xs true off e = absurd cc
word_at p x xs false off e =
    let k : 1 + position_or_len p xs ≡ suc (position_or_len p xs) = omega arith in
    let f = part p xs in
    rw k (ap (filter is_word) (slice_split-cons_no p x xs e ∙ ap (onto_first x) f.split) ∙ ap (λ (ws : List (List ℕ)). (x ∷ take (position_or_len p xs) xs) ∷ ws) f.rest)

-- a word stands in front
pub word : (p : ℕ → Bool) (xs : List ℕ) → 0 < length xs → p (get_or xs 0 0) ≡ false → words_by p xs ≡ take (position_or_len p xs) xs ∷ words_by p (drop (position_or_len p xs) xs)
word p [] h e = absurd (omega arith)
word p (x ∷ xs) h e = word_at p x xs (p x) e refl

-- the first word after the spaces in front
pub word_follows : (p : ℕ → Bool) (xs ys w rest : List ℕ) (e : ℕ) → ys ≡ drop (prefix_len p xs) xs → 0 < length ys → e ≡ position_or_len p ys → w ≡ take e ys → rest ≡ drop e ys → words_by p xs ≡ w ∷ words_by p rest
word_follows p xs ys w rest e is-ys some is-e is-w is-rest =
    let inside : prefix_len p xs < length xs = omega (arith, ap length is-ys, length-drop (prefix_len p xs) xs) in
    let stops : p (get_or ys 0 0) ≡ false = rw (is-ys, get_or-drop, add-zero) (prefix_len_stops p xs 0 inside) in
    rw (is-w, is-rest, is-e) (skips p xs ∙ rw (← is-ys) (word p ys some stops))
