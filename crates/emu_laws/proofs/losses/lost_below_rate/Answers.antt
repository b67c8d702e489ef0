use Rattle.emu_laws.proofs.LossCauses as law
use Rattle.emu_laws.proofs.losses.lost_below_rate.Goals as goal

pub returns : goal.returns
returns c = law.lost_below_rate
