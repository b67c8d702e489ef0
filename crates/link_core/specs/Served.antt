-- The busy period that the numbers of a server represent.
use Rattle.std.specs.Prelude.{◌≡◌, ℕ, zero, suc, ◌+◌, ◌-◌, ◌*◌, ◌^◌, ◌<◌, ◌≤◌, min, Option, Some, None}
use Rattle.emu_model.specs.Rate.{Period}
use Rattle.link_core.specs.declared.rate.Busy.{Busy}

abbrev pub period_of : Busy → Period
period_of b = record { start = b.start; sum = b.sum; finish = b.reached + min b.left_over 1 }

-- the work of the bytes served, divided by the rate, as a quotient and a remainder
pub record IsQuotient (bw : ℕ) (b : Busy) : Type 0 where
  pub begun : b.start ≤ b.reached
  pub small : b.left_over < bw
  pub work : 8 * 10 ^ 9 * b.sum ≡ (b.reached - b.start) * bw + b.left_over

-- at an unlimited rate the period takes no time, and sums no bytes
pub record IsStill (b : Busy) : Type 0 where
  pub begun : b.reached ≡ b.start
  pub none : b.sum ≡ 0
  pub whole : b.left_over ≡ 0

abbrev pub TellsWork : ℕ → Busy → Type 0
TellsWork zero b = IsStill b
TellsWork (suc bw) b = IsQuotient (suc bw) b

-- the numbers are those of a period at this rate, and its finish fits into 64 bits
abbrev pub Tells : ℕ → Busy → Type 0
Tells bw b = TellsWork bw b × ((period_of b).finish < 2 ^ 64)

abbrev pub TellsIfBusy : ℕ → Option Busy → Type 0
TellsIfBusy bw None = Unit {0}
TellsIfBusy bw (Some b) = Tells bw b
