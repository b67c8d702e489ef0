use Rattle.emu_model.proofs.CodelFacts as law
use Rattle.emu_model.proofs.codel_laws.reentry_goes_on.Goals as goal

pub returns : goal.returns
returns c = law.reentry_goes_on
