use Rattle.emu_model.proofs.ComponentFacts as law
use Rattle.emu_model.proofs.component_laws.exits_are_folded.Goals as goal

pub returns : goal.returns
returns c = law.exits_are_folded
