-- What was written of a text, if the bytes that a writer holds are known.
use Rattle.std.specs.Prelude.{◌≡◌, ℕ, ◌+◌, ◌≤◌, List, ◌++◌, length, Option}
use Rattle.std.specs.Io.KnownBytes.{Appends, Consumes, IsAtEnd}

-- a prefix of the text was written
unfoldable pub IsCut : Option (List ℕ) → Option (List ℕ) → List ℕ → Type 0
IsCut old new text = (written rest : List ℕ) × Appends old new written × (text ≡ written ++ rest)

-- all of the text so far was written, except the bytes that are kept back
unfoldable pub IsWriting : Option (List ℕ) → Option (List ℕ) → List ℕ → List ℕ → Type 0
IsWriting old new kept text = (written : List ℕ) × Appends old new written × (text ≡ written ++ kept)

-- bytes were appended to those that were written or kept back
unfoldable pub Puts : Option (List ℕ) → List ℕ → Option (List ℕ) → List ℕ → List ℕ → Type 0
Puts old kept new kept_now bytes = (first : Option (List ℕ)) (text : List ℕ) → IsWriting first old kept text → IsWriting first new kept_now (text ++ bytes)

-- a prefix was written of the text with these bytes after it
unfoldable pub Stops : Option (List ℕ) → List ℕ → Option (List ℕ) → List ℕ → Type 0
Stops old kept new bytes = (first : Option (List ℕ)) (text : List ℕ) → IsWriting first old kept text → IsCut first new (text ++ bytes)

-- the maximum length of a scenario's text, in bytes
abbrev pub limit : ℕ
limit = 16777216

-- at most `limit + 1` bytes were read of the rest of the input
unfoldable pub TakesFew : Option (List ℕ) → Option (List ℕ) → Type 0
TakesFew old new = (bytes : List ℕ) × Consumes old new bytes × (length bytes ≤ limit + 1)

-- the text is the rest of the input; if that exceeds the limit, the text is a prefix, at most one byte past the limit
pub record IsRead (old new : Option (List ℕ)) (text : List ℕ) : Type 0 where
  pub first : Consumes old new text
  pub few : length text ≤ limit + 1
  pub all : length text ≤ limit → IsAtEnd new
