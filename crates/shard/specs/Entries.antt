-- The entry of a resident on an agenda: when its next event is due.
use Rattle.std.specs.Prelude.{ℕ, ◌+◌, Option, Some, None}
use Rattle.emu_model.specs.declared.sources.Due.{Due}
use Rattle.emu_model.specs.declared.sources.Source.{Source}
use Rattle.emu_model.specs.declared.sources.Class.TheVariants.{NextCommand}
use Rattle.timer_wheel.specs.Rows.{Row, no_dues, with_due}

-- the source of the resident's single entry, whatever its next event is
abbrev pub turn : Source
turn = record { class = NextCommand; number = 0 }

-- a row with one entry, at a time of the agenda
abbrev pub row_at : ℕ → Row
row_at moment = with_due no_dues turn moment

-- the entry for the next event, shifted by an offset to the agenda's time
abbrev pub row_of : ℕ → Option Due → Row
row_of offset None = no_dues
row_of offset (Some d) = row_at (d.moment + offset)

-- the row of a resident, which has no entry if the resident is parked
abbrev pub entries_of : Option ℕ → Option Due → Row
entries_of None next = no_dues
entries_of (Some offset) next = row_of offset next

-- the time of the entry, if there is one
abbrev pub entry_at : Option ℕ → Option Due → Option ℕ
entry_at None next = None
entry_at (Some offset) None = None
entry_at (Some offset) (Some d) = Some (d.moment + offset)
