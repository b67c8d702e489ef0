use Rattle.emu_laws.proofs.CodelCauses as law
use Rattle.emu_laws.proofs.losses.codel_drops_by_control.Goals as goal

pub returns : goal.returns
returns c = law.codel_drops_by_control
