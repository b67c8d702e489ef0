use Rattle.emu_laws.proofs.SenderWindow as law
use Rattle.emu_laws.proofs.senders.done_flows_are_silent.Goals as goal

pub returns : goal.returns
returns c = law.done_flows_are_silent
