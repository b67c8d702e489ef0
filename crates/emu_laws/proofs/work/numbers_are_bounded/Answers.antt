use Rattle.emu_laws.proofs.NumbersBounded as law
use Rattle.emu_laws.proofs.work.numbers_are_bounded.Goals as goal

pub returns : goal.returns
returns c = law.numbers_are_bounded
