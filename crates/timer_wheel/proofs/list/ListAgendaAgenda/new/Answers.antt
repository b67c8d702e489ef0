use Rattle.timer_wheel.proofs.Rows.{above-nil, rows-nil}
use Rattle.timer_wheel.proofs.list.ListAgendaAgenda.new.Goals as goal

pub invariant_of-result : goal.invariant_of-result
invariant_of-result c = rw c.new.ensures.items (above-nil c.args.clock)

pub returns-clause-empty : goal.returns-clause-empty
returns-clause-empty c = rw c.new.ensures.items rows-nil
