use Rattle.emu_laws.proofs.StepHistory as law
use Rattle.emu_laws.proofs.isolation.runs_are_histories.Goals as goal

pub returns : goal.returns
returns c = law.runs_are_histories
