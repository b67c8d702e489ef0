-- A due, and the preconditions of its event.
use Rattle.emu_model.specs.declared.sources.Due.{Due}
use Rattle.pipe_table.specs.Table.{IsExitDue, IsFinishDue, IsPiped}
use Rattle.sources.specs.Sends.{IsAllowed, IsNumbered}
use Rattle.network.specs.Kept.{KeptNet}

-- a due that meets the preconditions of its event
pub record IsDue (d : Due) (n : KeptNet) : Type 0 where
  pub finishing : IsFinishDue d n.table.pipes
  pub leaving : IsExitDue d n.table.pipes
  pub allowed : IsAllowed n.traffic d
  pub numbered : IsNumbered d
  pub piped : IsPiped d
