use Rattle.std.proofs.Common.{◌≡◌}
use Rattle.packet_store.specs.Pocket.{empty_pocket}
use Rattle.packet_store.specs.Own.{own_pocket}
use Rattle.packet_store.specs.Books.{pocket_of}
use Rattle.experiment.specs.Kept.{IsHousedIn}
use Rattle.engine_examples.proofs.tests.rehousing.plays.Given as goal

abbrev pub invariant-loop-command : goal.invariant-loop-command
invariant-loop-command l = record {
  housed : IsHousedIn (own_pocket l.own) l.experiment;
  empty : pocket_of l.store l.owner ≡ empty_pocket (own_pocket l.own).budget;
}
