-- A set of numbers below 65536, as bits: the test for a number, and the search for the minimum.
use Rattle.std.specs.Prelude.{◌≡◌, ℕ, ◌/◌, ◌%◌, ◌<◌, Bool, ◌==◌, nat_lt, if◌then◌else◌, List, [], ◌∷◌, length, slice_index}
use Rattle.std.specs.Int.{bit_at}
use Rattle.sources.specs.declared.numbers.NumberSet.{NumberSet}

-- a truth value as a bit
abbrev pub flag : Bool → ℕ
flag b = if b then 1 else 0

abbrev pub is_in : NumberSet → ℕ → Bool
is_in s k = bit_at (slice_index s.words.items (k / 64)) (k % 64) == 1

-- each bit of the upper words is set if and only if its lower word is not zero
abbrev pub IsOver : List ℕ → List ℕ → Type 0
IsOver lower upper = (i : ℕ) →
    bit_at (slice_index upper (i / 64)) (i % 64) ≡ flag (nat_lt 0 (slice_index lower i))

-- both upper levels agree with the levels below them
pub record IsWhole (s : NumberSet) : Type 0 where
  pub groups : length s.some ≡ 16
  pub some : IsOver s.words.items s.some
  pub any : IsOver s.some (s.any ∷ [])

-- the set has a bit for this number
abbrev pub HasEntry : ℕ → NumberSet → Type 0
HasEntry k s = k / 64 < length s.words.items

-- bit k of n is set, and no lower bit is
pub record IsLowest (n k : ℕ) : Type 0 where
  pub within : k < 64
  pub here : bit_at n k ≡ 1
  pub below : (i : ℕ) → i < k → bit_at n i ≡ 0
