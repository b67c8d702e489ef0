-- A contract's view of a mail, as far as this end knows it.
use Rattle.std.specs.Prelude.{◌≡◌, ◌⊎◌, Bool, true, List}
use Rattle.emu_model.specs.declared.commands.Timed.{Timed}
use Rattle.emu_model.specs.declared.records.Record.{Record}

-- the commands that it has delivered and the letters that it has accepted; the commands that were posted at the other end,
-- and the letters that were read there; whether no command is known to wait, and whether no room for a letter is known
pub record Seen : Type 0 where
  pub given : List Timed
  pub letters : List Record
  pub posted : List Timed
  pub read : List Record
  pub dry : Bool
  pub full : Bool

module _ {M : Type 0} where
  -- letters may have been added to it, and nothing else has changed
  abbrev pub IsToldMore : (M → Seen) → M → M → Type 0
  IsToldMore seen old new =
      seen new ≡ record (seen old) { letters = (seen new).letters; full = (seen new).full }

  -- all records were added to it, or it is full
  abbrev pub IsPublished : (M → Seen) → List Record → M → Type 0
  IsPublished seen records mail = ((seen mail).letters ≡ records) ⊎ ((seen mail).full ≡ true)
