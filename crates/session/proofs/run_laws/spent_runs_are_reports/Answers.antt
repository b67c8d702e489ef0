use Rattle.session.proofs.Reporting as law
use Rattle.session.proofs.run_laws.spent_runs_are_reports.Goals as goal

pub returns : goal.returns
returns c = law.spent_runs_are_reports c.ended_states_are_whole.ensures
