-- Times that have the same number of digits, and differ only in the last eight.
use Rattle.std.specs.Prelude.{◌≡◌, ℕ, ◌-◌, ◌<◌, ◌≤◌, List, ◌++◌, decimal, drop}
use Rattle.report.specs.Words.{eight_of}

-- each time from `first` to `last` is `front` and the eight digits of its difference to `base`, without the first
-- `start` bytes
abbrev pub AreAlike : ℕ → ℕ → ℕ → ℕ → List ℕ → Type 0
AreAlike first last base start front =
    (m : ℕ) → first ≤ m → m ≤ last →
    (base ≤ m) × (m - base < 100000000) × (decimal m ≡ drop start (front ++ eight_of (m - base)))
