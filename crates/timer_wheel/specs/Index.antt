-- A map from owner and source to key, as a list of pairs.
use Rattle.std.specs.Prelude.{ℕ, ◌==◌, ◌&&◌, Bool, List, Option}
use Rattle.std.specs.Map.{lookup}
use Rattle.emu_model.specs.declared.sources.Source.{Source}
use Rattle.emu_model.specs.Dues.{rank}
use Rattle.timer_wheel.specs.declared.index.Whose.{Whose}

abbrev pub whose_of : ℕ → Source → Whose
whose_of o s = record { owner = o; class = rank s.class; number = s.number }

abbrev pub is_whose : ℕ → Source → Whose → Bool
is_whose o s w = o == w.owner && (rank s.class == w.class && s.number == w.number)

-- the key of a source of an owner, if it has one
unfoldable pub key_in : List (Whose × ℕ) → ℕ → Source → Option ℕ
key_in ws o s = lookup (is_whose o s) ws

-- an index as contracts see it: the keys, and the number of further sources that it has room for
pub record IndexBook : Type 0 where
  pub keys : List (Whose × ℕ)
  pub room : ℕ
