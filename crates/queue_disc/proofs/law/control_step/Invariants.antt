use Rattle.std.proofs.Common.{◌-◌}
use Rattle.queue_disc.proofs.Roots.{IsBetween}
use Rattle.queue_disc.proofs.law.control_step.Given as goal

abbrev pub invariant-loop-above : goal.invariant-loop-above
invariant-loop-above l = IsBetween l.interval l.count l.fitting l.above

abbrev pub decreases-loop-above : goal.decreases-loop-above
decreases-loop-above l = l.above - l.fitting
