use Rattle.emu_laws.proofs.DropCauses as law
use Rattle.emu_laws.proofs.losses.pipes_drop_nothing.Goals as goal

pub returns : goal.returns
returns c = law.pipes_drop_nothing c.each_packet_once.ensures
