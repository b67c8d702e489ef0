-- Lists of keys, as circles of links.
use Rattle.std.specs.Prelude.{◌≡◌, ℕ, ◌<◌, ◌≤◌, ◌⊎◌, List, length, map, drop, slice_index_or}
use Rattle.timer_wheel.specs.declared.ring.Link.{Link}

abbrev pub blank : Link
blank = record { list = 0; next = 0; prev = 0 }

abbrev pub next_of : List Link → ℕ → ℕ
next_of links q = (slice_index_or links q blank).next

abbrev pub prev_of : List Link → ℕ → ℕ
prev_of links q = (slice_index_or links q blank).prev

abbrev pub list_of : List Link → ℕ → ℕ
list_of links q = (slice_index_or links q blank).list

-- the list of each key; the keys are stored after the heads
unfoldable pub lists_in : List Link → List ℕ
lists_in links = drop 2051 (map (λ (l : Link). l.list) links)

-- `len` links, in which each list is a circle through its head. Each link has a successor, a predecessor and a list;
-- each key has a height, which is less than that of the key before it
pub record AreLinked (len : ℕ) (next prev list height : ℕ → ℕ) (top : ℕ) : Type 0 where
  pub long : 2051 ≤ len
  pub next_in : (q : ℕ) → q < len → next q < len
  pub prev_in : (q : ℕ) → q < len → prev q < len
  pub back : (q : ℕ) → q < len → prev (next q) ≡ q
  pub forth : (q : ℕ) → q < len → next (prev q) ≡ q
  pub same : (q : ℕ) → q < len → list (next q) ≡ list q
  pub heads : (q : ℕ) → q < 2051 → list q ≡ q
  pub within : (q : ℕ) → q < len → list q < 2051
  pub falls : (q : ℕ) → 2051 ≤ q → q < len → (prev q < 2051) ⊎ (height q < height (prev q))
  pub bound : (q : ℕ) → height q < top

pub record IsLinked (links : List Link) : Type 0 where
  pub height : ℕ → ℕ
  pub top : ℕ
  pub linked : AreLinked (length links) (next_of links) (prev_of links) (list_of links) height top
