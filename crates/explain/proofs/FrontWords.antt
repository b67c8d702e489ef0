-- Words from the front of what is left of a line.
use Rattle.std.proofs.Common.{◌≡◌, ℕ, ◌≤◌, ◌<◌, Bool, false, eqb, List, [], ◌∷◌, length, get_or, drop, refl, sym, ap, ◌∙◌, arith, add-zero}
use Rattle.std.specs.List.{prefix_len, position_or_len}
use Rattle.std.proofs.lemmas.List.{length-drop, get_or-drop, drop-drop}
use Rattle.std.proofs.lemmas.List.Sums.{prefix_len_stops, prefix_len-le-length}
use Rattle.control_words.specs.Text.{words}
use Rattle.control_words.proofs.CallerLemmas.{skips, word}
use Rattle.explain.specs.Lines.{IsFirstAt, IsPastWord, past_first}

abbrev pub space : ℕ → Bool
space b = eqb b 32

-- what is left of a line from here on has these words, and no space in front
pub record IsLeft (line : List ℕ) (start : ℕ) (ws : List (List ℕ)) : Type 0 where
  pub within : start ≤ length line
  pub words_are : words (drop start line) ≡ ws
  pub begins : 0 < length (drop start line) → space (get_or (drop start line) 0 0) ≡ false

-- no space stands behind the spaces in front
begins_behind : (xs : List ℕ) → 0 < length (drop (prefix_len space xs) xs) → space (get_or (drop (prefix_len space xs) xs) 0 0) ≡ false
begins_behind xs h =
    let inside : prefix_len space xs < length xs = omega (arith, h, length-drop (prefix_len space xs) xs) in
    rw (get_or-drop, add-zero) (prefix_len_stops space xs 0 inside)

pub left_first : (line : List ℕ) (start : ℕ) → start ≡ prefix_len space line → IsLeft line start (words line)
left_first line start e = rw e (record {
  within = prefix_len-le-length space line;
  words_are = sym (skips space line);
  begins = begins_behind line;
})

next_words : (xs : List ℕ) → (0 < length xs → space (get_or xs 0 0) ≡ false) → words (drop (past_first xs) xs) ≡ drop 1 (words xs)
next_words [] begins = refl
next_words (x ∷ xs) begins =
    let all = x ∷ xs in
    let e = position_or_len space all in
    let n = prefix_len space (drop e all) in
    let first = word space all (omega arith) (begins (omega arith)) in
    ap words (sym (drop-drop n e all)) ∙ sym (skips space (drop e all)) ∙ sym (ap (drop 1) first)

-- a word on
pub left_next : (line : List ℕ) (start after : ℕ) (ws : List (List ℕ)) → IsLeft line start ws → IsPastWord line start after → IsLeft line after (drop 1 ws)
left_next line start after ws left past =
    let xs = drop start line in
    let e = position_or_len space xs in
    let n = prefix_len space (drop e xs) in
    let there : drop after line ≡ drop (past_first xs) xs = ap (λ k. drop k line) past.value ∙ sym (drop-drop (past_first xs) start line) in
    let here : drop (past_first xs) xs ≡ drop n (drop e xs) = sym (drop-drop n e xs) in
    let both : drop after line ≡ drop n (drop e xs) = there ∙ here in
    record {
      within = past.within;
      words_are = ap words there ∙ next_words xs left.begins ∙ ap (drop 1) left.words_are;
      begins = rw both (begins_behind (drop e xs));
    }

first_at : (xs line : List ℕ) (start width : ℕ) → drop start line ≡ xs → start ≤ length line → (0 < length xs → space (get_or xs 0 0) ≡ false) → width ≡ position_or_len space xs → IsFirstAt (words xs) line (record { start = start; width = width })
first_at [] line start width e within begins w = (omega (arith, ap length e, length-drop start line), w)
first_at (x ∷ xs) line start width e within begins w = rw (word space (x ∷ xs) (omega arith) (begins (omega arith))) (rw (e, w) refl)

-- the first word that is left
pub left_found : (line : List ℕ) (start width : ℕ) (ws : List (List ℕ)) → IsLeft line start ws → width ≡ position_or_len space (drop start line) → IsFirstAt ws line (record { start = start; width = width })
left_found line start width ws left w = rw (← left.words_are) (first_at (drop start line) line start width refl left.within left.begins w)
