use Rattle.emu_laws.proofs.WaitsBounded as law
use Rattle.emu_laws.proofs.queues.wait_is_bounded.Goals as goal

pub returns : goal.returns
returns c = law.wait_is_bounded
