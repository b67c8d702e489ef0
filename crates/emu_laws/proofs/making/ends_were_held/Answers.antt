use Rattle.emu_laws.proofs.EndsHeld as law
use Rattle.emu_laws.proofs.making.ends_were_held.Goals as goal

pub returns : goal.returns
returns c = law.ends_were_held c.each_packet_once.ensures
