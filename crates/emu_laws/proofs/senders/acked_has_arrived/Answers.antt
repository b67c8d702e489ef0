use Rattle.emu_laws.proofs.AckedCame as law
use Rattle.emu_laws.proofs.senders.acked_has_arrived.Goals as goal

pub returns : goal.returns
returns c = law.acked_has_arrived
