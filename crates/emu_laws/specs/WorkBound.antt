-- Work is bounded (our choice): the packets that an experiment holds, and its records.
use Rattle.std.specs.Prelude.{ℕ, ◌+◌, ◌*◌, ◌≤◌, Bool, true, false, not, List, count_by}
use Rattle.emu_model.specs.declared.records.Record.{Record}
use Rattle.emu_model.specs.declared.records.Record.TheVariants.{RuleLine, PipeLine, InstanceLine}
use Rattle.emu_model.specs.declared.commands.Spec.{Spec}
use Rattle.emu_model.specs.declared.commands.Timed.{Timed}
use Rattle.emu_model.specs.Net.{held}
use Rattle.emu_model.specs.Step.{step}
use Rattle.emu_model.specs.Alone.{alone}

abbrev pub most_held : Spec → ℕ
most_held spec = spec.budget.packets

-- no more packets wait, are in service or are in a delay line than the budget allows
abbrev pub HeldWithinBudget : Type 0
HeldWithinBudget = (spec : Spec) (c : List Timed) (n : ℕ) → held (alone spec c n).net ≤ most_held spec

-- tests for a line of `show` or `pipe show`, of which there are as many as rules, pipes and instances
abbrev pub is_listing : Record → Bool
is_listing (RuleLine rule packets bytes) = true
is_listing (PipeLine pipe config) = true
is_listing (InstanceLine pipe instance waiting bytes busy in_flight drawn) = true
is_listing _ = false

-- the number of records other than these lines
abbrev pub told : List Record → ℕ
told records = count_by (λ r. not (is_listing r)) records

-- the maximum number of such records that a step adds, apart from a drop for each packet that it no longer holds
abbrev pub most_told : ℕ
most_told = 6

-- a step adds at most `most_told` to the sum of such records and held packets, so n steps add at most 6 * n
pub record RecordsAreBounded : Type 0 where
  pub in_a_step : (spec : Spec) (c : List Timed) (n : ℕ) →
      let s = alone spec c n in
      told (step s).net.records + held (step s).net ≤ told s.net.records + held s.net + most_told
  pub in_all : (spec : Spec) (c : List Timed) (n : ℕ) →
      told (alone spec c n).net.records + held (alone spec c n).net ≤ most_told * n
