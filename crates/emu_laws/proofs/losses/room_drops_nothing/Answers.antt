use Rattle.emu_laws.proofs.RunCauses as law
use Rattle.emu_laws.proofs.losses.room_drops_nothing.Goals as goal

pub returns : goal.returns
returns c = law.room_drops_nothing
