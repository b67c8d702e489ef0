-- Sources that are due at the same time.
use Rattle.std.specs.Prelude.{◌≡◌, ℕ, ◌<◌, ◌≤◌, ◌==◌, Bool, false, ◌&&◌, ◌||◌, nat_lt, List, length, slice_index_or}
use Rattle.timer_wheel.specs.declared.Entry.{Entry}
use Rattle.timer_wheel.specs.declared.ties.Tie.{Tie}
use Rattle.timer_wheel.specs.Rows.{source_before}

-- the ties as contracts see them: sources, of which the first `next` were passed
pub record TiesBook : Type 0 where
  pub items : List Tie
  pub next : ℕ

abbrev pub tie_of : Entry → Tie
tie_of e = record { owner = e.owner; source = e.source }

-- the order of ties: by owner, then source
abbrev pub tie_before : Tie → Tie → Bool
tie_before a b = nat_lt a.owner b.owner || (a.owner == b.owner && source_before a.source b.source)

abbrev pub IsRising : List Tie → Type 0
IsRising ts = (i j : ℕ) (d : Tie) → i ≤ j → j < length ts → tie_before (slice_index_or ts j d) (slice_index_or ts i d) ≡ false

-- a source among the ties that was not passed
pub record Waits (b : TiesBook) (t : Tie) : Type 0 where
  pub at : ℕ
  pub after : b.next ≤ at
  pub below : at < length b.items
  pub is : slice_index_or b.items at t ≡ t
