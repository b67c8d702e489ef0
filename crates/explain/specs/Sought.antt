-- A command by the numbers of its experiment and its own.
use Rattle.std.specs.Prelude.{ℕ, ◌+◌, Bool, false, ◌==◌, min, List, Option, Some, None}
use Rattle.explain.specs.declared.refused.Text.{Text}

-- how many experiments began, the name of the last, and how many commands it has so far
pub record Count : Type 0 where
  pub experiments : ℕ
  pub name : List ℕ
  pub commands : ℕ

abbrev pub count_of : Text → Count
count_of t = record { experiments = t.experiments; name = t.name.now; commands = t.commands }

-- behind the first line of an experiment
abbrev pub begun : List ℕ → Count → Count
begun name n = record { experiments = min (n.experiments + 1) 18446744073709551615; name = name; commands = 0 }

-- behind a command
abbrev pub passed : Count → Count
passed n = record n { commands = min (n.commands + 1) 18446744073709551615 }

-- the command has the number that is wanted, if one is
abbrev pub has_number : ℕ → Option ℕ → Bool
has_number number None = false
has_number number (Some wanted) = wanted == number
