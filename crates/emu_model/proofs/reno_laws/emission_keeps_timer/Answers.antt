use Rattle.emu_model.proofs.RenoFacts as law
use Rattle.emu_model.proofs.reno_laws.emission_keeps_timer.Goals as goal

pub returns : goal.returns
returns c = law.emission_keeps_timer
