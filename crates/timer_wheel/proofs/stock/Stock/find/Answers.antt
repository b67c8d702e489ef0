use Rattle.timer_wheel.proofs.StockFacts.{find_held, find_some, find_none}
use Rattle.timer_wheel.proofs.stock.Stock.find.Goals as goal

pub returns-clause-held : goal.returns-clause-held
returns-clause-held c = rw (← c.self.view_is) (find_held (record { entries = c.self.inside.entries.items; slots = c.self.inside.slots; owners = c.self.inside.owners; index = c.self.inside.index }) c.self.invariant c.args.owner c.args.source c.find.result c.find.ensures)

pub returns-clause-some : goal.returns-clause-some
returns-clause-some c = rw (← c.self.view_is) (find_some (record { entries = c.self.inside.entries.items; slots = c.self.inside.slots; owners = c.self.inside.owners; index = c.self.inside.index }) c.self.invariant c.args.owner c.args.source c.find.result c.find.ensures)

pub returns-clause-none : goal.returns-clause-none
returns-clause-none c = rw (← c.self.view_is) (find_none (record { entries = c.self.inside.entries.items; slots = c.self.inside.slots; owners = c.self.inside.owners; index = c.self.inside.index }) c.args.owner c.args.source c.find.result c.find.ensures)
