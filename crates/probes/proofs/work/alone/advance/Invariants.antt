use Rattle.packet_store.specs.Own.{own_pocket}
use Rattle.experiment.specs.Kept.{IsHousedIn}
use Rattle.probes.proofs.work.alone.advance.Given as goal

abbrev pub invariant-loop : goal.invariant-loop
invariant-loop l = record { housed : IsHousedIn (own_pocket l.shelf) l.experiment }
