use Rattle.emu_model.proofs.ComponentFacts as law
use Rattle.emu_model.proofs.component_laws.loss_has_its_extremes.Goals as goal

pub returns : goal.returns
returns c = law.loss_has_its_extremes
