-- Lines and words.
use Rattle.std.specs.Prelude.{ℕ, Bool, true, false, List, [], ◌∷◌, ◌==◌}
use Rattle.std.specs.List.{slice_split, filter}

-- the parts between separators, from the first to the last
abbrev pub parts : ℕ → List ℕ → List (List ℕ)
parts separator bytes = slice_split (λ b. b == separator) bytes

-- the parts between line feeds: each line, and at the end what follows the last line feed
abbrev pub lines : List ℕ → List (List ℕ)
lines bytes = parts 10 bytes

abbrev pub is_word : List ℕ → Bool
is_word [] = false
is_word (b ∷ bs) = true

-- the parts between runs of spaces
abbrev pub words : List ℕ → List (List ℕ)
words line = filter is_word (parts 32 line)
