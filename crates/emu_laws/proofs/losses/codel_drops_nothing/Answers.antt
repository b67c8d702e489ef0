use Rattle.emu_laws.proofs.DropCauses as law
use Rattle.emu_laws.proofs.losses.codel_drops_nothing.Goals as goal

pub returns : goal.returns
returns c = law.codel_drops_nothing
