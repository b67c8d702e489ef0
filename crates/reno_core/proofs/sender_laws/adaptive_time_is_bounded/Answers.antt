use Rattle.reno_core.proofs.Histories as law
use Rattle.reno_core.proofs.sender_laws.adaptive_time_is_bounded.Goals as goal

pub returns : goal.returns
returns c = law.adaptive_time_is_bounded
