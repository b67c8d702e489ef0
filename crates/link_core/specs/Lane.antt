-- A delay line as contracts see it.
use Rattle.std.specs.Prelude.{ℕ}
use Rattle.emu_model.specs.Delay.{Line}

-- the line, and the number of further items that can enter without an allocation
pub record Lane (A : Type 0) : Type 0 where
  pub line : Line A
  pub spare : ℕ
