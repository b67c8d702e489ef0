-- A pipe passes no more than its rate (ipfw(8), bw).
use Rattle.std.specs.Prelude.{ℕ, ◌+◌, ◌-◌, ◌*◌, ◌^◌, ◌<◌, ◌≤◌, ◌&&◌, nat_le, if◌then◌else◌, List, [], ◌∷◌}
use Rattle.std.specs.List.{AllByRecursion}
use Rattle.emu_model.specs.Rate.{finishes}

-- the bytes of the packets that finish from `from` to `to`, given the finish and size of each packet
abbrev pub bytes_between : ℕ → ℕ → List ℕ → List ℕ → ℕ
bytes_between from to [] sizes = 0
bytes_between from to (f ∷ fs) [] = 0
bytes_between from to (f ∷ fs) (z ∷ zs) =
    (if nat_le from f && nat_le f to then z else 0) + bytes_between from to fs zs

-- the bits that a rate allows from `from` to `to`, in units of 10^-9 bit, with one more nanosecond (finishes are rounded up)
-- and one more packet (the first one to finish may have begun before)
abbrev pub most_bits : ℕ → ℕ → ℕ → ℕ → ℕ
most_bits bw from to largest = bw * (to - from + 1) + 8 * 10 ^ 9 * largest

-- in a busy period fewer bits than these finish in any interval of time
abbrev pub RateIsKept : Type 0
RateIsKept = (bw start from to largest : ℕ) (sizes : List ℕ) → 0 < bw →
    AllByRecursion (λ z. z ≤ largest) sizes →
    8 * 10 ^ 9 * bytes_between from to (finishes bw start 0 sizes) sizes
    < most_bits bw from to largest
