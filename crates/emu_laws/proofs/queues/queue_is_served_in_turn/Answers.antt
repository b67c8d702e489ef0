use Rattle.emu_laws.proofs.QueueInTurn as law
use Rattle.emu_laws.proofs.queues.queue_is_served_in_turn.Goals as goal

pub returns : goal.returns
returns c = law.queue_is_served_in_turn
