use Rattle.emu_laws.proofs.PipeRate as law
use Rattle.emu_laws.proofs.links.rate_is_kept.Goals as goal

pub returns : goal.returns
returns c = law.rate_is_kept
