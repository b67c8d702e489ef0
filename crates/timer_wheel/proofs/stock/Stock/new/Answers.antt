use Rattle.std.proofs.Common.{ap}
use Rattle.timer_wheel.specs.Stocks.{due_of, due_by}
use Rattle.timer_wheel.proofs.stock.Stock.new.Goals as goal

pub returns-clause-rows : goal.returns-clause-rows
unfolding due_of
returns-clause-rows c o s = ap (due_by c.new.result.items) (c.new-4.ensures o s)
