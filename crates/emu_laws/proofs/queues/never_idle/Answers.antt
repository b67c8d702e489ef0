use Rattle.emu_laws.proofs.QueuesKept as law
use Rattle.emu_laws.proofs.queues.never_idle.Goals as goal

pub returns : goal.returns
returns c = law.never_idle
