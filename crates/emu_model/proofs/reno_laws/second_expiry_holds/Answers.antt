use Rattle.emu_model.proofs.RenoFacts as law
use Rattle.emu_model.proofs.reno_laws.second_expiry_holds.Goals as goal

pub returns : goal.returns
returns c = law.second_expiry_holds
