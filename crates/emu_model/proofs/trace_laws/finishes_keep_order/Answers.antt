use Rattle.emu_model.proofs.PassingOrder as law
use Rattle.emu_model.proofs.trace_laws.finishes_keep_order.Goals as goal

pub returns : goal.returns
returns c = law.finishes_keep_order
