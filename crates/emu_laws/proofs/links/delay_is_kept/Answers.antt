use Rattle.emu_laws.proofs.PipeDelay as law
use Rattle.emu_laws.proofs.links.delay_is_kept.Goals as goal

pub returns : goal.returns
returns c = law.delay_is_kept
