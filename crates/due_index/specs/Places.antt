-- An index as contracts see it.
use Rattle.std.specs.Prelude.{ℕ, Option, List}
use Rattle.emu_model.specs.declared.sources.Due.{Due}

-- the due at each place, if any, and the number of further places that need no allocation
pub record Places : Type 0 where
  pub leaves : List (Option Due)
  pub spare : ℕ
