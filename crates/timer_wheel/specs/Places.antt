-- The place of an entry on a wheel.
use Rattle.std.specs.Prelude.{ℕ, zero, suc, ◌+◌, ◌*◌, ◌/◌, ◌%◌, ◌==◌, if◌then◌else◌}

-- the level and the byte of a due, from `level` and at most n levels higher: the first level above which the clock and
-- the due agree
unfoldable pub climb : ℕ → ℕ → ℕ → ℕ → ℕ
climb zero level clock due = level * 256 + due % 256
climb (suc n) level clock due =
    let higher : ℕ = climb n (level + 1) (clock / 256) (due / 256) in
    if clock / 256 == due / 256 then level * 256 + due % 256 else higher

-- the place of a due: level * 256 + byte
unfoldable pub place_of : ℕ → ℕ → ℕ
place_of clock due = climb 7 0 clock due
