use Rattle.emu_model.proofs.Single as law
use Rattle.emu_model.proofs.run_laws.dues_differ.Goals as goal

pub returns : goal.returns
returns c = law.dues_differ
