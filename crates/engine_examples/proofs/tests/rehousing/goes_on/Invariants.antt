use Rattle.std.proofs.Common.{◌≡◌}
use Rattle.packet_store.specs.Pocket.{empty_pocket}
use Rattle.packet_store.specs.Own.{own_pocket}
use Rattle.packet_store.specs.Books.{pocket_of}
use Rattle.experiment.specs.Kept.{IsHousedIn}
use Rattle.engine_examples.proofs.tests.rehousing.goes_on.Given as goal

abbrev pub invariant-loop-turn : goal.invariant-loop-turn
invariant-loop-turn l = record {
  housed : IsHousedIn (own_pocket l.own) l.experiment;
  empty : pocket_of l.store l.owner ≡ empty_pocket (own_pocket l.own).budget;
}
