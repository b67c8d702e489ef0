use Rattle.experiment.proofs.WaitLaws as law
use Rattle.experiment.proofs.waits.waits_begin.Goals as goal

pub returns : goal.returns
returns c = law.waits_begin c.later_commands_wait.ensures
