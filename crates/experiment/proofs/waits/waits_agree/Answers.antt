use Rattle.experiment.proofs.WaitLaws as law
use Rattle.experiment.proofs.waits.waits_agree.Goals as goal

pub returns : goal.returns
returns c = law.waits_agree
