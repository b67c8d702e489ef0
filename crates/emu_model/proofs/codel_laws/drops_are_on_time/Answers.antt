use Rattle.emu_model.proofs.CodelFacts as law
use Rattle.emu_model.proofs.codel_laws.drops_are_on_time.Goals as goal

pub returns : goal.returns
returns c = law.drops_are_on_time
