use Rattle.std.proofs.Common.{◌≡◌, ◌*◌, ◌≤◌, map, take}
use Rattle.std.specs.Prelude.{sum}
use Rattle.alone.proofs.limits.sum_of_steps.Given as goal

abbrev pub invariant-loop-script : goal.invariant-loop-script
invariant-loop-script l = record {
  summed : l.sum ≡ sum (map (λ e. e.spec.budget.steps) (take l.script-index l.scripts));
  few : l.sum ≤ l.script-index * 10000000;
}
