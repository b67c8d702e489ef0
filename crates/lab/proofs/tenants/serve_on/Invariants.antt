use Rattle.lab.specs.Serving.{ServesAll}
use Rattle.lab.proofs.tenants.serve_on.Given as goal

abbrev pub invariant-loop : goal.invariant-loop
invariant-loop g l = ServesAll l.tenants l.scenario
