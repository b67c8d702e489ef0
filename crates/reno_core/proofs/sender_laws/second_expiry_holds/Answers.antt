use Rattle.reno_core.proofs.Histories as law
use Rattle.reno_core.proofs.sender_laws.second_expiry_holds.Goals as goal

pub returns : goal.returns
returns c = law.second_expiry_holds
