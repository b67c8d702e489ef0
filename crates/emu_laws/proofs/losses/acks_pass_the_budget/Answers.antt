use Rattle.emu_laws.proofs.DropCauses as law
use Rattle.emu_laws.proofs.losses.acks_pass_the_budget.Goals as goal

pub returns : goal.returns
returns c = law.acks_pass_the_budget
