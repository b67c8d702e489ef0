use Rattle.experiment.proofs.Going as law
use Rattle.experiment.proofs.sessions.sessions_are_alone.Goals as goal

pub returns : goal.returns
returns c = law.sessions_are_alone c.later_commands_wait.ensures
