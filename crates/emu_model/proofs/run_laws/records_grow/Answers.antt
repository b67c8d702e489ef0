use Rattle.emu_model.proofs.Growth as law
use Rattle.emu_model.proofs.run_laws.records_grow.Goals as goal

pub returns : goal.returns
returns c = law.records_grow
