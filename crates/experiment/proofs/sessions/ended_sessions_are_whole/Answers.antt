use Rattle.experiment.proofs.Going as law
use Rattle.experiment.proofs.sessions.ended_sessions_are_whole.Goals as goal

pub returns : goal.returns
returns c = law.ended_sessions_are_whole c.later_commands_wait.ensures
