use Rattle.emu_laws.proofs.ServiceOnTime as law
use Rattle.emu_laws.proofs.links.service_is_on_time.Goals as goal

pub returns : goal.returns
returns c = law.service_is_on_time
