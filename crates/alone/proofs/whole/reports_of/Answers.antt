use Rattle.alone.proofs.Endings.{same-texts}
use Rattle.alone.proofs.whole.reports_of.Goals as goal

pub returns-clause-ok : goal.returns-clause-ok
returns-clause-ok c = (
  c.in_ok-scenario.scenario,
  c.in_ok-scenario.ensures.spells,
  same-texts c.in_ok-scenario.scenario c.experiments.result.now c.in-Ok.reports.items c.experiments.ensures.value c.in-Ok.ensures,
)
