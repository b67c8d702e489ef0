use Rattle.std.proofs.Common.{◌≡◌, length}
use Rattle.bench.specs.Tenants.{posted, SameTenant}
use Rattle.bench.specs.Commands.{BeginsWith}
use Rattle.lab.proofs.tenants.post_some.Given as goal

abbrev pub invariant-loop-k : goal.invariant-loop-k
invariant-loop-k l = SameTenant l.initial.tenant l.tenant × (length (posted l.tenant) ≡ l.k) × BeginsWith l.commands (posted l.tenant)
