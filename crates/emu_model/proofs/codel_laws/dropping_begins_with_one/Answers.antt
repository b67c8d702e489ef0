use Rattle.emu_model.proofs.CodelFacts as law
use Rattle.emu_model.proofs.codel_laws.dropping_begins_with_one.Goals as goal

pub returns : goal.returns
returns c = law.dropping_begins_with_one
