use Rattle.std.proofs.Common.{◌≡◌, ◌+◌, ◌≤◌}
use Rattle.packet_store.specs.Own.{own_pocket}
use Rattle.network.specs.Kept.{IsHoused}
use Rattle.engine_examples.proofs.tests.nets.goes_on.Given as goal

abbrev pub invariant-loop : goal.invariant-loop
invariant-loop l = record {
  seed : l.net.table.seed ≡ 0;
  budget : (own_pocket l.shelf).budget ≡ (own_pocket l.initial.shelf).budget;
  housed : IsHoused (own_pocket l.shelf) l.net;
  made : l.net.made ≤ l.initial.net.made + l.counter;
}
