use Rattle.pipe_core.proofs.PipeFacts.{views-agree, packets-named}
use Rattle.pipe_core.proofs.keys_law.keys_say_all.Goals as goal

pub returns-clause-agree : goal.returns-clause-agree
returns-clause-agree c = views-agree

pub returns-clause-packets : goal.returns-clause-packets
returns-clause-packets c = packets-named
