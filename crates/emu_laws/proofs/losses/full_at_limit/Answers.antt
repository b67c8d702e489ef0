use Rattle.emu_laws.proofs.LossCauses as law
use Rattle.emu_laws.proofs.losses.full_at_limit.Goals as goal

pub returns : goal.returns
returns c = law.full_at_limit
