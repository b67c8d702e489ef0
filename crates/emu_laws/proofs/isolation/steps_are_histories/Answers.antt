use Rattle.emu_laws.proofs.StepHistory as law
use Rattle.emu_laws.proofs.isolation.steps_are_histories.Goals as goal

pub returns : goal.returns
returns c = law.steps_are_histories
