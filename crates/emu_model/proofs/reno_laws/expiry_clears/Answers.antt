use Rattle.emu_model.proofs.RenoFacts as law
use Rattle.emu_model.proofs.reno_laws.expiry_clears.Goals as goal

pub returns : goal.returns
returns c = law.expiry_clears
