use Rattle.std.proofs.Common.{sym, subst}
use Rattle.control.specs.Ranges.{IsScenario}
use Rattle.control.proofs.Tracing.{traced-scenario}
use Rattle.control.proofs.scenario.Scenario.traced.Goals as goal

pub new-requires : goal.new-requires
new-requires c = subst IsScenario (sym c.trace_list.ensures) (traced-scenario _ c.self.invariant)
