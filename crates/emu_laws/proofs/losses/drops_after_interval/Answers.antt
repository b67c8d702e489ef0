use Rattle.emu_laws.proofs.CodelCauses as law
use Rattle.emu_laws.proofs.losses.drops_after_interval.Goals as goal

pub returns : goal.returns
returns c = law.drops_after_interval
