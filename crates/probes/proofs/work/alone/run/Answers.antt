use Rattle.std.proofs.Common.{sym, subst, arith}
use Rattle.experiment.specs.Kept.{IsHousedIn}
use Rattle.probes.proofs.work.alone.run.Goals as goal

pub play-played-requires : goal.play-played-requires
play-played-requires c =
    subst (λ p. IsHousedIn p c.in-Ok.experiment) (sym c.new-shelf.ensures.own)
    (c.in-Ok.ensures.housed c.args.plan.now.spec.budget.packets (omega arith))
