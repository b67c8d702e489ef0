-- Marked numbers (our choice).
use Rattle.std.specs.Prelude.{◌≡◌, ℕ, ◌/◌, ◌%◌, ◌^◌, Bool, true, not, ◌==◌, if◌then◌else◌, List, slice_index_or, bit_and}

-- bytes, each with the bits of eight numbers, the lowest number first
abbrev pub Marks : Type 0
Marks = List ℕ

abbrev pub is_marked : Marks → ℕ → Bool
is_marked bytes n = not (bit_and (slice_index_or bytes (n / 8) 0) (2 ^ (n % 8)) == 0)

-- the number is marked in addition, and no other number
abbrev pub MarksOne : ℕ → Marks → Marks → Type 0
MarksOne number old new = (n : ℕ) → is_marked new n ≡ (if n == number then true else is_marked old n)
