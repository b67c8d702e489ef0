use Rattle.emu_model.proofs.ComponentFacts as law
use Rattle.emu_model.proofs.component_laws.codel_keeps_order.Goals as goal

pub returns : goal.returns
returns c = law.codel_keeps_order
