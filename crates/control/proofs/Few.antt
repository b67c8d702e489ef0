-- A line has no more words than bytes and one.
use Rattle.std.proofs.Common.{ℕ, ◌+◌, ◌≤◌, eqb, List, length, arith}
use Rattle.std.proofs.lemmas.List.Splits.{length-slice_split}
use Rattle.std.proofs.lemmas.List.Sums.{length-filter, count_by-le-length}
use Rattle.control_words.specs.Text.{words, parts, is_word}

pub few : (line : List ℕ) → length (words line) ≤ length line + 1
few line = omega (arith, length-filter is_word (parts 32 line), count_by-le-length is_word (parts 32 line), length-slice_split (λ b. eqb b 32) line, count_by-le-length (λ b. eqb b 32) line)
