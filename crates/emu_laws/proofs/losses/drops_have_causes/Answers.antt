use Rattle.emu_laws.proofs.RunCauses as law
use Rattle.emu_laws.proofs.losses.drops_have_causes.Goals as goal

pub returns : goal.returns
returns c = law.drops_have_causes
