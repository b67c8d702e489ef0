use Rattle.packet_store.specs.Own.{own_pocket}
use Rattle.experiment.specs.Kept.{IsHousedIn}
use Rattle.probes.proofs.work.alone.play.Given as goal

abbrev pub invariant-loop-k : goal.invariant-loop-k
invariant-loop-k l = record { housed : IsHousedIn (own_pocket l.shelf) l.experiment }
