use Rattle.std.proofs.Common.{◌≡◌, ◌≤◌, length, map, take, drop, vec_capacity}
use Rattle.std.specs.Vec.Iter.{into_iter_items, into_iter_len}
use Rattle.alone.specs.Reports.{trace_alone}
use Rattle.lab.proofs.tenants.settle_all.Given as goal

abbrev pub invariant-loop-experiment : goal.invariant-loop-experiment
invariant-loop-experiment l = record {
  tenants : into_iter_items l.tenants ≡ drop l.experiment-index l.fn.tenants.items;
  tenants_len : into_iter_len l.tenants ≡ length (into_iter_items l.tenants);
  dossiers : into_iter_items l.dossiers ≡ drop l.experiment-index l.fn.dossiers.items;
  dossiers_len : into_iter_len l.dossiers ≡ length (into_iter_items l.dossiers);
  made : l.all.items ≡ map trace_alone (take l.experiment-index l.scenario);
  count : length l.all.items ≡ l.experiment-index;
  room : length l.scenario ≤ vec_capacity l.all;
}
