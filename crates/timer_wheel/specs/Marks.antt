-- The marks of slots.
use Rattle.std.specs.Prelude.{ℕ, ◌/◌, ◌%◌, slice_index_or}
use Rattle.std.specs.Int.{bit_at}
use Rattle.timer_wheel.specs.declared.marks.Marks.{Marks}

-- 1 if a slot is marked, otherwise 0
unfoldable pub mark_at : Marks → ℕ → ℕ
mark_at m place = bit_at (slice_index_or m.words (place / 64) 0) (place % 64)
