use Rattle.emu_model.proofs.RenoFacts as law
use Rattle.emu_model.proofs.reno_laws.slow_start_grows.Goals as goal

pub returns : goal.returns
returns c = law.slow_start_grows
