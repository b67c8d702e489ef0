use Rattle.emu_laws.proofs.DropCauses as law
use Rattle.emu_laws.proofs.losses.nothing_goes_with_pipes.Goals as goal

pub returns : goal.returns
returns c = law.nothing_goes_with_pipes
