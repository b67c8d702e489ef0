-- A rate server as contracts see it.
use Rattle.std.specs.Prelude.{ℕ, Option}
use Rattle.emu_model.specs.Rate.{Period}

-- the rate, and the busy period, or None if the server is idle
pub record Server : Type 0 where
  pub bw : ℕ
  pub busy : Option Period

-- a period in which nothing has been served
abbrev pub period_at : ℕ → Period
period_at start = record { start = start; sum = 0; finish = start }
