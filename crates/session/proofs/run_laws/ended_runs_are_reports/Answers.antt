use Rattle.session.proofs.Reporting as law
use Rattle.session.proofs.run_laws.ended_runs_are_reports.Goals as goal

pub returns : goal.returns
returns c = law.ended_runs_are_reports c.later_commands_wait.ensures c.ended_states_are_whole.ensures
