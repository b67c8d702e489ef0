use Rattle.session.proofs.LeastFacts as law
use Rattle.session.proofs.run_laws.earlier_commands_come.Goals as goal

pub returns : goal.returns
returns c = law.earlier_commands_come c.commands_go_on.ensures c.records_are_not_read.ensures c.waits_settle.ensures
