-- The entries in the slots of a wheel.
use Rattle.std.specs.Prelude.{◌≡◌, ℕ, ◌<◌, ◌≤◌, ◌^◌, ◌==◌, ◌&&◌, ◌⊎◌, [], ◌∷◌, ◌++◌, cond, false, Some, None}
use Rattle.emu_model.specs.declared.sources.Source.{Source}
use Rattle.emu_model.specs.RunLaws.{same_source}
use Rattle.timer_wheel.specs.declared.Entry.{Entry}
use Rattle.timer_wheel.specs.Places.{place_of}
use Rattle.timer_wheel.specs.Rows.{Row, IsAtOrAbove, is_before}
use Rattle.timer_wheel.specs.Stocks.{StockBook, Holds, due_of, room_of}
use Rattle.timer_wheel.specs.Ties.{TiesBook, Waits, IsRising, tie_of}

-- a `Wheel` as contracts see it
pub record WheelBook : Type 0 where
  pub stock : StockBook
  pub ties : TiesBook
  pub clock : ℕ

-- the list of an entry: its place by the clock, or the list of the ties if it is due now and waits there
abbrev pub StandsAt : ℕ → TiesBook → ℕ → Entry → Type 0
StandsAt clock ties p e = (p ≡ place_of clock e.due) ⊎ ((p ≡ 2048) × (e.due ≡ clock) × Waits ties (tie_of e))

abbrev pub IsPlaced : ℕ → StockBook → TiesBook → Type 0
IsPlaced clock b ties = (k : ℕ) (e : Entry) (p : ℕ) → Holds b.entries b.slots k e p → StandsAt clock ties p e

-- each entry is in its list, the ties are in order, and each due is at or after the clock and below 2 ^ 64
pub record IsWheel (clock : ℕ) (b : StockBook) (ties : TiesBook) : Type 0 where
  pub placed : IsPlaced clock b ties
  pub rising : IsRising ties.items
  pub low : IsAtOrAbove clock (due_of b)
  pub small : (o : ℕ) (s : Source) (d : ℕ) → due_of b o s ≡ Some d → d < 2 ^ 64

-- the list that was chosen for an entry, and the ties after the choice
abbrev pub IsSeated : ℕ → Entry → TiesBook → ℕ → TiesBook → Type 0
IsSeated clock e old p new =
    ((p ≡ place_of clock e.due) × (new ≡ old))
    ⊎ ((p ≡ 2048) × (e.due ≡ clock) × (new ≡ record old { items = old.items ++ tie_of e ∷ [] }))

-- the stock after the clock moved to the due of e, the first entry: the dues are the same, and each entry is in its
-- list for that clock
pub record IsTurned (clock : ℕ) (old : StockBook) (e : Entry) (new : StockBook) (ties : TiesBook) : Type 0 where
  pub was : due_of old e.owner e.source ≡ Some e.due
  pub least : (o : ℕ) (s : Source) (d : ℕ) → due_of old o s ≡ Some d → is_before (record { due = d; owner = o; source = s }) e ≡ false
  pub low : clock ≤ e.due
  pub rows : (o : ℕ) (s : Source) → due_of new o s ≡ due_of old o s
  pub placed : IsPlaced e.due new ties
  pub rising : IsRising ties.items
  pub room : room_of new ≡ room_of old

-- nothing is due
pub record IsStill (clock : ℕ) (old new : StockBook) (ties : TiesBook) : Type 0 where
  pub empty : (o : ℕ) (s : Source) → due_of old o s ≡ None
  pub rows : (o : ℕ) (s : Source) → due_of new o s ≡ due_of old o s
  pub wheel : IsWheel clock new ties
  pub room : room_of new ≡ room_of old

-- the rows without the due of one source
abbrev pub without_at : (ℕ → Row) → ℕ → Source → ℕ → Row
without_at rows owner source o s = cond (o == owner && same_source s source) None (rows o s)

-- the rows with the due of one source set
abbrev pub with_at : (ℕ → Row) → ℕ → Source → ℕ → ℕ → Row
with_at rows owner source due o s = cond (o == owner && same_source s source) (Some due) (rows o s)
