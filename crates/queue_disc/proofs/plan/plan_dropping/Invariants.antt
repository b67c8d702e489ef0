use Rattle.std.proofs.Common.{length, ◌-◌}
use Rattle.queue_disc.proofs.Judging.{IsJudged}
use Rattle.queue_disc.proofs.plan.plan_dropping.Given as goal

abbrev pub invariant-loop-times : goal.invariant-loop-times
invariant-loop-times g l =
    IsJudged l.times l.now l.fn.seen l.queue.waiting l.drops l.left l.control

abbrev pub decreases-loop-times : goal.decreases-loop-times
decreases-loop-times g l = length l.queue.waiting - l.drops
