use Rattle.experiment.proofs.WaitLaws as law
use Rattle.experiment.proofs.waits.commands_come_alone.Goals as goal

pub returns : goal.returns
returns c = law.commands_come_alone
