use Rattle.emu_model.proofs.Ahead as law
use Rattle.emu_model.proofs.due_laws.dues_stay_ahead.Goals as goal

pub returns : goal.returns
returns c = law.dues_stay_ahead
