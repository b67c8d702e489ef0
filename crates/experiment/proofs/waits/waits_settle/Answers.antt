use Rattle.experiment.proofs.Settling as law
use Rattle.experiment.proofs.waits.waits_settle.Goals as goal

pub returns : goal.returns
returns c = law.waits_settle
