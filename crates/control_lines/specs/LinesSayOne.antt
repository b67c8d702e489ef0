-- Laws of a line, over the definitions alone.
use Rattle.std.specs.Prelude.{◌≡◌, ℕ, List}
use Rattle.control_lines.specs.Entries.{Entry, Says}

-- a line spells at most one entry
abbrev pub LinesSayOne : Type 0
LinesSayOne = (line : List ℕ) (e other : Entry) → Says line e → Says line other → e ≡ other
