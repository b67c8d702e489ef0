use Rattle.experiment.proofs.WaitLaws as law
use Rattle.experiment.proofs.waits.commands_go_on.Goals as goal

pub returns : goal.returns
returns c = law.commands_go_on c.later_commands_wait.ensures
