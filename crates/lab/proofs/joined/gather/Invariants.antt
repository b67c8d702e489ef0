use Rattle.std.proofs.Common.{◌≡◌, ◌++◌, length}
use Rattle.std.specs.Vec.Iter.{into_iter_items, into_iter_len}
use Rattle.lab.specs.Joins.{closings_of, dossiers_of, faults_of}
use Rattle.lab.specs.Gathers.{Holds}
use Rattle.lab.proofs.joined.gather.Given as goal

abbrev pub invariant-loop-given : goal.invariant-loop-given
invariant-loop-given l = record {
  rest : l.yielded ++ into_iter_items l.given-iterator ≡ l.fn.all.items;
  left : into_iter_len l.given-iterator ≡ length (into_iter_items l.given-iterator);
  len : length l.joined.dossiers.items ≡ l.count;
  holds : Holds l.joined (closings_of l.yielded) (dossiers_of l.yielded) (faults_of l.yielded);
}
