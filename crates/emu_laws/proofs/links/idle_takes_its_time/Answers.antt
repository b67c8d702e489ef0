use Rattle.emu_laws.proofs.PipeDelay as law
use Rattle.emu_laws.proofs.links.idle_takes_its_time.Goals as goal

pub returns : goal.returns
returns c = law.idle_takes_its_time
