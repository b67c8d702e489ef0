-- The form of an experiment's name.
use Rattle.std.specs.Prelude.{◌≡◌, ℕ, ◌<◌, ◌≤◌, true, List, length}
use Rattle.std.specs.List.{list_all}
use Rattle.control_words.specs.Addresses.{is_name_byte}

-- 1 to 32 bytes, each of them allowed in a name
pub record IsName (text : List ℕ) : Type 0 where
  pub least : 0 < length text
  pub most : length text ≤ 32
  pub letters : list_all is_name_byte text ≡ true
