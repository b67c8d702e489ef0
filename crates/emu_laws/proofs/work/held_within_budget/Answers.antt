use Rattle.emu_laws.proofs.HeldBudget as law
use Rattle.emu_laws.proofs.work.held_within_budget.Goals as goal

pub returns : goal.returns
returns c = law.held_within_budget
