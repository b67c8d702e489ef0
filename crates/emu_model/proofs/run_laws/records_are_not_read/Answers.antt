use Rattle.emu_model.proofs.Earlier as law
use Rattle.emu_model.proofs.run_laws.records_are_not_read.Goals as goal

pub returns : goal.returns
returns c = law.records_are_not_read
