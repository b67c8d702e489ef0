-- Parsing words from left to right.
use Rattle.std.specs.Prelude.{ℕ, List, [], ◌∷◌, Option, Some, None, if◌then◌else◌, option_and_then}
use Rattle.std.specs.Str.{bytes_eq}

abbrev pub Words : Type 0
Words = List (List ℕ)

infixl 10 ◌>>=◌
abbrev pub ◌>>=◌ : {A B : Type 0} → Option A → (A → Option B) → Option B
o >>= f = option_and_then f o

abbrev pub next : Words → Option (List ℕ × Words)
next [] = None
next (w ∷ ws) = Some (w, ws)

abbrev pub none_left : Words → Option Words
none_left [] = Some []
none_left (w ∷ ws) = None

-- the words after this one, if it is the first
abbrev pub after : List ℕ → Words → Option Words
after text [] = None
after text (w ∷ ws) = if bytes_eq w text then Some ws else None

-- the value of the next word
abbrev pub value : {A : Type 0} → (List ℕ → Option A) → Words → Option (A × Words)
value says ws = do
  word ← next ws
  a ← says word.0
  Some (a, word.1)

-- the value of the next word, passed to `thing`
abbrev pub said : {A B : Type 0} → (List ℕ → Option A) → (A → B) → Words → Option (B × Words)
said says thing ws = do
  a ← value says ws
  Some (thing a.0, a.1)
