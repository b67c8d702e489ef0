use Rattle.emu_model.proofs.Later as law
use Rattle.emu_model.proofs.run_laws.later_commands_wait.Goals as goal

pub returns : goal.returns
returns c = law.later_commands_wait
