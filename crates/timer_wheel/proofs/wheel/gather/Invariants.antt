use Rattle.std.proofs.Common.{◌==◌, count_by}
use Rattle.timer_wheel.proofs.MoveFacts.{IsGathered}
use Rattle.timer_wheel.proofs.wheel.gather.Given as goal

abbrev pub invariant-loop-key : goal.invariant-loop-key
invariant-loop-key l = IsGathered l.fn.from l.fn.stock l.stock l.least

abbrev pub decreases-loop-key : goal.decreases-loop-key
decreases-loop-key l = count_by (λ x. x == l.fn.from) l.stock.slots
