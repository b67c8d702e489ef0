use Rattle.emu_laws.proofs.DropCauses as law
use Rattle.emu_laws.proofs.losses.no_queue_is_full.Goals as goal

pub returns : goal.returns
returns c = law.no_queue_is_full
