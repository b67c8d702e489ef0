use Rattle.emu_laws.proofs.RecordsInOrder as law
use Rattle.emu_laws.proofs.runs.records_are_in_order.Goals as goal

pub returns : goal.returns
returns c = law.records_are_in_order c.dues_stay_ahead.ensures
