use Rattle.emu_model.proofs.ComponentFacts as law
use Rattle.emu_model.proofs.component_laws.codel_spares_the_quick.Goals as goal

pub returns : goal.returns
returns c = law.codel_spares_the_quick
