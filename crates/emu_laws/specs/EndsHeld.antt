-- A packet that is delivered was held before, and one that is dropped was held or is created in the same step (our choice).
use Rattle.std.specs.Prelude.{◌≡◌, ℕ, ◌+◌, ◌<◌, ◌≤◌, ◌==◌, ◌⊎◌, List, count_by}
use Rattle.emu_model.specs.declared.commands.Spec.{Spec}
use Rattle.emu_model.specs.declared.commands.Timed.{Timed}
use Rattle.emu_model.specs.Net.{Net}
use Rattle.emu_model.specs.TraceLaws.{delivers, drops, held_packets}
use Rattle.emu_model.specs.Alone.{alone}

-- the number of packets numbered k that wait, are in service or are in a delay line
abbrev pub held_of : ℕ → Net → ℕ
held_of k n = count_by (λ p. p.number == k) (held_packets n)

-- packet k in one step: it is delivered or dropped at most once in all; if it is delivered, it was held when the step began, and if it is
-- dropped, it was held then or is created in the step
pub record EndsOnce (k : ℕ) (before after : Net) : Type 0 where
  pub once : count_by (delivers k) after.records + count_by (drops k) after.records ≤ 1
  pub delivered : count_by (delivers k) before.records < count_by (delivers k) after.records → held_of k before ≡ 1
  pub dropped : count_by (drops k) before.records < count_by (drops k) after.records →
      (held_of k before ≡ 1) ⊎ (before.made ≤ k)

abbrev pub EndsWereHeld : Type 0
EndsWereHeld = (spec : Spec) (c : List Timed) (n k : ℕ) → EndsOnce k (alone spec c n).net (alone spec c (n + 1)).net
