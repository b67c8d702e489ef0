use Rattle.emu_laws.proofs.ExitsTold as law
use Rattle.emu_laws.proofs.isolation.exits_are_recorded.Goals as goal

pub returns : goal.returns
returns c = law.exits_are_recorded
