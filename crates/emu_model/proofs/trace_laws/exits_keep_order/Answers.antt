use Rattle.emu_model.proofs.PassingOrder as law
use Rattle.emu_model.proofs.trace_laws.exits_keep_order.Goals as goal

pub returns : goal.returns
returns c = law.exits_keep_order
