use Rattle.emu_model.proofs.ComponentFacts as law
use Rattle.emu_model.proofs.component_laws.accepts_within_limit.Goals as goal

pub returns : goal.returns
returns c = law.accepts_within_limit
