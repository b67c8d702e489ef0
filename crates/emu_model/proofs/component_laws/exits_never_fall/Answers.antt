use Rattle.emu_model.proofs.ComponentFacts as law
use Rattle.emu_model.proofs.component_laws.exits_never_fall.Goals as goal

pub returns : goal.returns
returns c = law.exits_never_fall
