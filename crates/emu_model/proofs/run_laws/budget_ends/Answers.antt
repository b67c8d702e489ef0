use Rattle.emu_model.proofs.Ends as law
use Rattle.emu_model.proofs.run_laws.budget_ends.Goals as goal

pub returns : goal.returns
returns c = law.budget_ends
