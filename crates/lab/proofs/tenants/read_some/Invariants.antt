use Rattle.std.proofs.Common.{◌≡◌}
use Rattle.bench.specs.Tenants.{posted, SameTenant}
use Rattle.lab.proofs.tenants.read_some.Given as goal

abbrev pub invariant-loop : goal.invariant-loop
invariant-loop l = SameTenant l.initial.tenant l.tenant × (posted l.tenant ≡ posted l.initial.tenant)
