use Rattle.std.proofs.Common.{◌≡◌, take}
use Rattle.bench.specs.Custody.{times}
use Rattle.bench.proofs.names.remove_one.Given as goal

abbrev pub invariant-loop-k : goal.invariant-loop-k
invariant-loop-k l = (l.names ≡ l.initial.names) × (times l.name (take l.k l.initial.names.items) ≡ 0)
