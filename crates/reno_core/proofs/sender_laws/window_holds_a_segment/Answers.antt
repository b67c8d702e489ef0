use Rattle.reno_core.proofs.Histories as law
use Rattle.reno_core.proofs.sender_laws.window_holds_a_segment.Goals as goal

pub returns : goal.returns
returns c = law.window_holds_a_segment
