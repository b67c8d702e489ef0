use Rattle.emu_model.proofs.Below as law
use Rattle.emu_model.proofs.due_laws.dues_stay_below.Goals as goal

pub returns : goal.returns
returns c = law.dues_stay_below
