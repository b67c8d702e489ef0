use Rattle.emu_model.proofs.Conserved as law
use Rattle.emu_model.proofs.run_laws.packets_add_up.Goals as goal

pub returns : goal.returns
returns c = law.packets_add_up
