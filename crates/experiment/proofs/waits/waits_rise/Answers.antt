use Rattle.experiment.proofs.WaitLaws as law
use Rattle.experiment.proofs.waits.waits_rise.Goals as goal

pub returns : goal.returns
returns c = law.waits_rise
