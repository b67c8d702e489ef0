use Rattle.reno_core.proofs.Receiving as law
use Rattle.reno_core.proofs.sender_laws.segments_are_a_set.Goals as goal

pub returns : goal.returns
returns c = law.segments_are_a_set
