use Rattle.emu_laws.proofs.SenderWindow as law
use Rattle.emu_laws.proofs.senders.new_data_fits_windows.Goals as goal

pub returns : goal.returns
returns c = law.new_data_fits_windows
