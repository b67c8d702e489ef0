use Rattle.std.proofs.Common.{ℕ, ◌+◌, ◌≤◌, drop}
use Rattle.world.specs.Places.{Places}
use Rattle.world.specs.Runs.{Runs}
use Rattle.world.proofs.world.World.run.Given as goal

abbrev pub invariant-loop-step : goal.invariant-loop-step
invariant-loop-step g l = record {
  few : l.refused ≤ l.step-index;
  goes_on : (n : ℕ) (new : Places) → Runs (drop l.step-index l.steps) n l.self new → Runs l.steps (l.refused + n) l.initial.self new;
}
