use Rattle.std.proofs.Common.{sym, subst, arith}
use Rattle.packet_store.specs.Pocket.{Pocket}
use Rattle.experiment.specs.Kept.{IsHousedIn}
use Rattle.engine_examples.proofs.tests.experiments.Bench.new.Goals as goal

pub invariant_of-result : goal.invariant_of-result
invariant_of-result c = record {
  housed =
      subst (λ (p : Pocket). IsHousedIn p c.in-Ok.experiment) (sym c.new-shelf.ensures.own)
      (c.in-Ok.ensures.housed c.in_ok-packets.packets (omega arith));
}
