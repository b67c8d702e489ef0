use Rattle.emu_model.proofs.Told as law
use Rattle.emu_model.proofs.trace_laws.make_comes_first.Goals as goal

pub returns : goal.returns
returns c = law.make_comes_first
