use Rattle.emu_laws.proofs.DropCauses as law
use Rattle.emu_laws.proofs.losses.nothing_is_lost.Goals as goal

pub returns : goal.returns
returns c = law.nothing_is_lost
