use Rattle.experiment.proofs.WaitLaws as law
use Rattle.experiment.proofs.waits.waits_pass_events.Goals as goal

pub returns : goal.returns
returns c = law.waits_pass_events
