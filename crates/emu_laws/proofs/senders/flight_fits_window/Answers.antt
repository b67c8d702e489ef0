use Rattle.emu_laws.proofs.SenderWindow as law
use Rattle.emu_laws.proofs.senders.flight_fits_window.Goals as goal

pub returns : goal.returns
returns c = law.flight_fits_window
