-- Parsing phrases in a row, and adding the value of each.
use Rattle.std.specs.Prelude.{ℕ, Bool, List, [], ◌∷◌, Option, Some, None, if◌then◌else◌}
use Rattle.control_words.specs.Words.{Words, ◌>>=◌, next}

-- the next phrase, if its first word begins one; `one` parses the phrase, given that word
abbrev pub phrase_at : {A : Type 0} → (List ℕ → Bool) → (List ℕ → Words → Option (A × Words)) → Words → Option (List ℕ × Words) → Option (Option A × Words)
phrase_at starts one ws None = Some (None, ws)
phrase_at starts one ws (Some word) = if starts word.0 then (do
  a ← one word.0 word.1
  Some (Some a.0, a.1))
    else Some (None, ws)

abbrev pub next_phrase : {A : Type 0} → (List ℕ → Bool) → (List ℕ → Words → Option (A × Words)) → Words → Option (Option A × Words)
next_phrase starts one ws = phrase_at starts one ws (next ws)

-- phrases for as long as there are any, each added to the value so far; at most as many as `room` has words
abbrev pub phrases_within : {A C : Type 0} → (List ℕ → Bool) → (List ℕ → Words → Option (A × Words)) → (C → A → Option C) → Words → C → Words → Option (C × Words)
phrases_within starts one put [] c ws = Some (c, ws)
phrases_within starts one put (_ ∷ room) c [] = Some (c, [])
phrases_within starts one put (_ ∷ room) c (k ∷ ws) = if starts k then (do
  a ← one k ws
  d ← put c a.0
  phrases_within starts one put room d a.1)
    else Some (c, k ∷ ws)

unfoldable pub phrases : {A C : Type 0} → (List ℕ → Bool) → (List ℕ → Words → Option (A × Words)) → (C → A → Option C) → C → Words → Option (C × Words)
phrases starts one put c ws = phrases_within starts one put ws c ws
