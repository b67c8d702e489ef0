use Rattle.emu_laws.proofs.AloneOf as law
use Rattle.emu_laws.proofs.isolation.instances_are_isolated.Goals as goal

pub returns : goal.returns
returns c = law.instances_are_isolated
