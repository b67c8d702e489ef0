use Rattle.emu_laws.proofs.LeastDues as law
use Rattle.emu_laws.proofs.single_states.least_due_is_least.Goals as goal

pub returns : goal.returns
returns c = law.least_due_is_least
