use Rattle.std.proofs.Common.{replicate, refl, arith}
use Rattle.report.proofs.Short.{alike_23}
use Rattle.report.proofs.clock.Clock.new.Goals as goal

pub invariant_of-result : goal.invariant_of-result
invariant_of-result c = (omega arith, omega arith, omega arith, alike_23 (replicate 16 48) refl, refl)
