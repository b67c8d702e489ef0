use Rattle.emu_laws.proofs.SenderWindow as law
use Rattle.emu_laws.proofs.senders.sequence_is_in_order.Goals as goal

pub returns : goal.returns
returns c = law.sequence_is_in_order
