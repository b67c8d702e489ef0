use Rattle.reno_core.proofs.Histories as law
use Rattle.reno_core.proofs.sender_laws.loss_leaves_two_segments.Goals as goal

pub returns : goal.returns
returns c = law.loss_leaves_two_segments
