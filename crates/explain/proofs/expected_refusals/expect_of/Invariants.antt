use Rattle.packet_store.specs.Own.{own_pocket}
use Rattle.experiment.specs.Kept.{IsHousedIn}
use Rattle.explain.proofs.expected_refusals.expect_of.Given as goal

-- the experiment's packets stand on the shelf
abbrev pub invariant-loop-place : goal.invariant-loop-place
invariant-loop-place l = IsHousedIn (own_pocket l.shelf) l.experiment
