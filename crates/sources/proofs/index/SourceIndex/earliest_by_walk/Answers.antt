use Rattle.std.proofs.Common.{sym}
use Rattle.due_index.proofs.CallerLemmas.{lesser-none}
use Rattle.sources.proofs.Indexes.{walk_more, walk_all}
use Rattle.sources.proofs.index.SourceIndex.earliest_by_walk.Goals as goal

pub loop-flow-init : goal.loop-flow-init
loop-flow-init c = sym (lesser-none c.earliest_send-best.result)

pub loop-flow-preserved : goal.loop-flow-preserved
loop-flow-preserved c =
    walk_more c.args.flows.now c.loop-flow.flow-index c.flow-item.result c.earliest_send-best.result c.loop-flow.best
    c.or_earlier-best.result c.timer.result c.loop-flow-test.true c.flow-item.is c.timer.ensures c.or_earlier-best.ensures
    c.loop-flow.invariant

pub returns : goal.returns
returns c = λ ts h.
    walk_all c.args.clock c.args.flows.now ts c.loop-flow.flow-index c.args.best c.earliest_send-best.result c.loop-flow.best
    c.loop-flow-test.false (c.earliest_send-best.ensures c.args.flows.now ts h) c.loop-flow.invariant
