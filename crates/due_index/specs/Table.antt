-- Places by number.
use Rattle.std.specs.Prelude.{ℕ, Option, None, List, slice_index_or}

-- the place of a number; none past the end of the table
abbrev pub place_in : List (Option ℕ) → ℕ → Option ℕ
place_in entries number = slice_index_or entries number None
