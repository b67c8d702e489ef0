use Rattle.std.proofs.Common.{◌≡◌}
use Rattle.control.specs.Traced.{traced}
use Rattle.control.proofs.Tracing.{done}
use Rattle.control.proofs.scenario.trace_experiments.Given as goal

abbrev pub invariant-loop-experiment : goal.invariant-loop-experiment
invariant-loop-experiment l = l.experiments ≡ done traced l.initial.experiments l.experiment-index
