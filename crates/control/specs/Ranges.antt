-- The invariant of every scenario.
use Rattle.std.specs.Prelude.{◌≤◌, List, All, length}
use Rattle.control.specs.Order.{AreInOrder}
use Rattle.control.specs.declared.scenario.Experiment.{Experiment}

-- at most 256 experiments; in each, the times do not decrease, and do not exceed the maximum time of a command
pub record IsScenario (experiments : List Experiment) : Type 0 where
  pub few : length experiments ≤ 256
  pub in_order : All (λ e. AreInOrder 0 e.commands) experiments
