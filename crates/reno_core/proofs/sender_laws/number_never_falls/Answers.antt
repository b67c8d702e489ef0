use Rattle.reno_core.proofs.Receiving as law
use Rattle.reno_core.proofs.sender_laws.number_never_falls.Goals as goal

pub returns : goal.returns
returns c = law.number_never_falls
