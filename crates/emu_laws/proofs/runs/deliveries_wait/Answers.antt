use Rattle.emu_laws.proofs.DeliveriesLate as law
use Rattle.emu_laws.proofs.runs.deliveries_wait.Goals as goal

pub returns : goal.returns
returns c = law.deliveries_wait c.dues_stay_ahead.ensures c.dues_differ.ensures c.each_packet_once.ensures
