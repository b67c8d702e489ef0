use Rattle.std.proofs.Common.{◌≡◌, length}
use Rattle.lab.specs.Serving.{ServesAll}
use Rattle.lab.proofs.tenants.open_all.Given as goal

abbrev pub invariant-loop-k : goal.invariant-loop-k
invariant-loop-k l = (length l.tenants.items ≡ l.k) × ServesAll l.tenants.items l.scenario × (l.registry.next ≡ l.k)
