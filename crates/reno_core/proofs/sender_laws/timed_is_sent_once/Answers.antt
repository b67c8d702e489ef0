use Rattle.reno_core.proofs.Histories as law
use Rattle.reno_core.proofs.sender_laws.timed_is_sent_once.Goals as goal

pub returns : goal.returns
returns c = law.timed_is_sent_once
