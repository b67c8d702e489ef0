use Rattle.emu_model.proofs.Told as law
use Rattle.emu_model.proofs.trace_laws.each_make_once.Goals as goal

pub returns : goal.returns
returns c = law.each_make_once
