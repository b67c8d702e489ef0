use Rattle.lab.specs.Serving.{ServesAll}
use Rattle.lab.proofs.tenants.serve_all.Given as goal

abbrev pub invariant-loop-k : goal.invariant-loop-k
invariant-loop-k l = ServesAll l.tenants l.scenario
