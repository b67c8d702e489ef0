-- The state of a receiver, and the set of segments that it represents.
use Rattle.std.specs.Prelude.{◌≡◌, ℕ, zero, suc, ◌+◌, ◌-◌, ◌*◌, ◌^◌, ◌<◌, ◌≤◌, ⊤, Bool, false, ◌==◌, List, [], ◌∷◌, length, min}
use Rattle.std.specs.List.{list_any}
use Rattle.emu_model.specs.Reno.{with_segment}

-- the segments that have arrived, by their first bytes, and how many more can arrive without an allocation
pub record Reception : Type 0 where
  pub smss : ℕ
  pub came : List ℕ
  pub room : ℕ

-- the first n segments, and the others that have arrived
abbrev pub filled : ℕ → ℕ → List ℕ → List ℕ
filled smss zero others = others
filled smss (suc n) others = with_segment (n * smss) (filled smss n others)

abbrev pub contains : ℕ → List ℕ → Bool
contains v xs = list_any (λ x. x == v) xs

-- the number is less than every element of xs
abbrev pub IsBelow : ℕ → List ℕ → Type 0
IsBelow v [] = ⊤
IsBelow v (x ∷ xs) = (v < x) × IsBelow v xs

abbrev pub Rises : List ℕ → Type 0
Rises [] = ⊤
Rises (x ∷ xs) = IsBelow x xs × Rises xs

-- none of `others` is one of the first n segments
abbrev pub IsApart : ℕ → ℕ → List ℕ → Type 0
IsApart smss n others = (k : ℕ) → k < n → contains (k * smss) others ≡ false

-- the maximum number of segments that a receiver takes, far above what a flow sends (our choice)
abbrev pub most_segments : ℕ
most_segments = 2 ^ 32

-- how many more segments can arrive, if there are `places` places
abbrev pub room_for : ℕ → ℕ → ℕ → ℕ
room_for places n kept = min (places - kept) (most_segments - (n + kept))

pub record IsKept (smss n : ℕ) (others : List ℕ) : Type 0 where
  pub least : 1 ≤ smss
  pub most : smss ≤ 1460
  pub few : n + length others ≤ most_segments
  pub rises : Rises others
  pub apart : IsApart smss (n + 1) others
