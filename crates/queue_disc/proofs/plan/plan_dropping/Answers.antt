use Rattle.queue_disc.proofs.Judging.{drops_on-all, not_true}
use Rattle.queue_disc.proofs.plan.plan_dropping.Goals as goal

pub returns : goal.returns
returns g c =
    drops_on-all _ _ _ _ _ _ _ c.loop-times.invariant (not_true _ c.loop-times-test.ensures)
