use Rattle.emu_laws.proofs.QueuesKept as law
use Rattle.emu_laws.proofs.queues.queues_are_bounded.Goals as goal

pub returns : goal.returns
returns c = law.queues_are_bounded
