-- `Instances` as contracts see them.
use Rattle.std.specs.Prelude.{ℕ, List}
use Rattle.emu_model.specs.FlowIds.{FlowId}

-- the different identifiers in the order of their first arrival, and the number of further ones that need no allocation
pub record Made : Type 0 where
  pub ids : List FlowId
  pub spare : ℕ
