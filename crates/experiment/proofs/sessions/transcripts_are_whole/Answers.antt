use Rattle.experiment.proofs.Going as law
use Rattle.experiment.proofs.sessions.transcripts_are_whole.Goals as goal

pub returns : goal.returns
returns c = law.transcripts_are_whole c.later_commands_wait.ensures
