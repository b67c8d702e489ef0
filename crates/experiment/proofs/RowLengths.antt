-- The length of the rows of reports.
use Rattle.std.proofs.Common.{◌≡◌, ℕ, ◌+◌, ◌*◌, min, List, [], ◌∷◌, ◌++◌, length, refl, arith, ap, sym, ◌∙◌}
use Rattle.std.specs.Prelude.{flat_map}
use Rattle.std.proofs.lemmas.List.{length-append}
use Rattle.std.proofs.lemmas.List.Sums.{sum-map, sum_by-cons}
use Rattle.emu_model.specs.declared.records.Record.{Record}
use Rattle.report.specs.Rows.{row_of, record_bytes, rows_of, row_bytes, counters_row, npy_header}
use Rattle.report.proofs.RowLengths.{row_length}
use Rattle.experiment.specs.Written.{KeptReport, npy_of, row_count, rows_from}

records-length : (k : ℕ) (rs : List Record) → length (flat_map (record_bytes k) rs) ≡ length rs * 40
records-length k [] = refl
records-length k (r ∷ rs) = omega (arith, length-append (record_bytes k r) (flat_map (record_bytes k) rs), row_length k (row_of r), records-length k rs)

all-length : (first : ℕ) (rs : List KeptReport) → length (rows_from first rs) ≡ row_count rs * 40
all-length first [] = refl
all-length first (r ∷ rs) =
    let k = min first 255 in
    let rows : KeptReport → ℕ = λ x. length x.records + 1 in
    let counted : row_count (r ∷ rs) ≡ length r.records + 1 + row_count rs =
    sum-map rows (r ∷ rs) ∙ sum_by-cons rows r rs ∙ ap (λ n. rows r + n) (sym (sum-map rows rs)) in
    omega (
      arith,
      counted,
      length-append (rows_of k r.records r.counters) (rows_from (first + 1) rs),
      length-append (flat_map (record_bytes k) r.records) (row_bytes k (counters_row r.counters)),
      records-length k r.records,
      row_length k (counters_row r.counters),
      all-length (first + 1) rs,
    )

pub npy_length : (rs : List KeptReport) (count : ℕ) → count ≡ row_count rs → (header : List ℕ) → header ≡ npy_header count →
    count * 40 + length header ≡ length (npy_of rs)
npy_length rs count is header made =
    omega (arith, length-append (npy_header (row_count rs)) (rows_from 0 rs), all-length 0 rs, is, ap length (made ∙ ap npy_header is))
