use Rattle.emu_laws.proofs.SenderWindow as law
use Rattle.emu_laws.proofs.senders.too_small_window_sends_nothing.Goals as goal

pub returns : goal.returns
returns c = law.too_small_window_sends_nothing
