-- A `Store` as contracts see it.
use Rattle.std.specs.Prelude.{ℕ, ◌-◌, ◌≤◌, List, Option, Some, None, IfSome, IsSome, slice_index_or}
use Rattle.packet_store.specs.Own.{Own, own_pocket}
use Rattle.packet_store.specs.Pocket.{Pocket, empty_pocket}

-- the shelf of each owner, if it has one
pub record Books : Type 0 where
  pub shelves : List (Option Own)

-- the packets on a shelf, or none if there is no shelf
abbrev pub pocket_on : Option Own → Pocket
pocket_on None = empty_pocket 0
pocket_on (Some s) = own_pocket s

unfoldable pub pocket_of : Books → ℕ → Pocket
pocket_of b o = pocket_on (slice_index_or b.shelves o None)

-- the owner has a shelf
abbrev pub IsAdmitted : ℕ → Books → Type 0
IsAdmitted o b = IsSome (slice_index_or b.shelves o None)

-- a shelf has a place for each packet of its budget
abbrev pub HasAll : Own → Type 0
HasAll s = (own_pocket s).budget - (own_pocket s).count ≤ s.spare

-- each shelf has a place for each packet of its budget
abbrev pub IsSound : List (Option Own) → Type 0
IsSound shelves = (o : ℕ) → IfSome (slice_index_or shelves o None) HasAll
