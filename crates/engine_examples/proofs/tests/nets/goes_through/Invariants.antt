use Rattle.std.proofs.Common.{◌≡◌, ◌*◌, ◌≤◌}
use Rattle.packet_store.specs.Own.{own_pocket}
use Rattle.network.specs.Kept.{IsHoused}
use Rattle.engine_examples.proofs.tests.nets.goes_through.Given as goal

abbrev pub invariant-loop-index : goal.invariant-loop-index
invariant-loop-index l = record {
  seed : l.net.table.seed ≡ 0;
  budget : (own_pocket l.shelf).budget ≡ (own_pocket l.initial.shelf).budget;
  housed : IsHoused (own_pocket l.shelf) l.net;
  made : l.net.made ≤ 502 * l.index;
}
