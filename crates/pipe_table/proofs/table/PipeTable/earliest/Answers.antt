use Rattle.pipe_core.specs.Moves.{packet_at}
use Rattle.pipe_table.proofs.Indexes.{number-least}
use Rattle.pipe_table.proofs.Reaching.{number-finishing, number-leaving, number-piped}
use Rattle.pipe_table.proofs.table.PipeTable.earliest.Goals as goal

pub returns-clause-least : goal.returns-clause-least
returns-clause-least c = λ p n.
    let s = c.self.inside in
    rw (← c.self.view_is)
    (number-least s.pipes.items s.dues c.args.best c.least.result c.or_earlier.result c.self.invariant.1 c.least.ensures c.or_earlier.ensures (packet_at p.find))

pub returns-clause-finishing : goal.returns-clause-finishing
returns-clause-finishing c =
    let s = c.self.inside in
    rw (← c.self.view_is)
    (number-finishing s.seed s.pipes.items c.self.invariant.0.0 (λ f. (c.self.invariant.1 f).fit) c.args.best c.or_earlier.result
    (number-least s.pipes.items s.dues c.args.best c.least.result c.or_earlier.result c.self.invariant.1 c.least.ensures c.or_earlier.ensures))

pub returns-clause-leaving : goal.returns-clause-leaving
returns-clause-leaving c =
    let s = c.self.inside in
    rw (← c.self.view_is)
    (number-leaving s.seed s.pipes.items c.self.invariant.0.0 (λ f. (c.self.invariant.1 f).fit) c.args.best c.or_earlier.result
    (number-least s.pipes.items s.dues c.args.best c.least.result c.or_earlier.result c.self.invariant.1 c.least.ensures c.or_earlier.ensures))

pub returns-clause-piped : goal.returns-clause-piped
returns-clause-piped c =
    let s = c.self.inside in
    number-piped s.seed s.pipes.items c.self.invariant.0.0 (λ f. (c.self.invariant.1 f).fit) c.args.best c.or_earlier.result
    (number-least s.pipes.items s.dues c.args.best c.least.result c.or_earlier.result c.self.invariant.1 c.least.ensures c.or_earlier.ensures)
