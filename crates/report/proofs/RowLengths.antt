-- The length of a row.
use Rattle.std.proofs.Common.{◌≡◌, ℕ, length, refl}
use Rattle.report.specs.Rows.{row_bytes}
use Rattle.report.specs.declared.rows.Row.{Row}

pub row_length : (experiment : ℕ) (r : Row) → length (row_bytes experiment r) ≡ 40
unfolding row_bytes
row_length experiment r = refl
