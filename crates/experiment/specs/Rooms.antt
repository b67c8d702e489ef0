-- A text that is put into a buffer of the caller.
use Rattle.std.specs.Prelude.{◌≡◌, ℕ, ◌+◌, ◌≤◌, List, ◌++◌, length, take, drop}

-- a text begins at `at` and ends at `end`; it is in the buffer if the buffer has that many bytes, and the bytes after it do
-- not change
pub record IsPutAt (text : List ℕ) (at : ℕ) (old new : List ℕ) (end : ℕ) : Type 0 where
  pub ends : end ≡ at + length text
  pub stands : end ≤ length old → take end new ≡ take at old ++ text
  pub rest : drop end new ≡ drop end old
  pub room : length new ≡ length old
