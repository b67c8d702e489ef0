use Rattle.experiment.proofs.Going as law
use Rattle.experiment.proofs.sessions.ended_states_are_whole.Goals as goal

pub returns : goal.returns
returns c = law.ended_states_are_whole
