use Rattle.emu_model.proofs.RenoFacts as law
use Rattle.emu_model.proofs.reno_laws.third_duplicate_resends.Goals as goal

pub returns : goal.returns
returns c = law.third_duplicate_resends
