use Rattle.experiment.proofs.WaitLaws as law
use Rattle.experiment.proofs.waits.waits_read_no_records.Goals as goal

pub returns : goal.returns
returns c = law.waits_read_no_records c.records_are_not_read.ensures
