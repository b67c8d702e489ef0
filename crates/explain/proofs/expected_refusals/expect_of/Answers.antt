use Rattle.std.proofs.Common.{sym, subst, arith}
use Rattle.experiment.specs.Kept.{IsHousedIn}
use Rattle.explain.proofs.expected_refusals.expect_of.Goals as goal

pub loop-place-init : goal.loop-place-init
loop-place-init c =
    subst (λ p. IsHousedIn p c.in_ok-experiment.experiment) (sym c.new-shelf.ensures.own)
    (c.in_ok-experiment.ensures.housed _ (omega arith))
