use Rattle.experiment.proofs.WaitLaws as law
use Rattle.experiment.proofs.waits.steps_before_wait.Goals as goal

pub returns : goal.returns
returns c = law.steps_before_wait
