use Rattle.std.proofs.Common.{◌++◌, ◌∙◌, ap, arith}
use Rattle.sources.specs.Kept.{with_traffic}
use Rattle.sources.specs.Sends.{source_dues}
use Rattle.sources.proofs.DueFacts.{appended_is}
use Rattle.sources.proofs.sources.Traffic.add_dues.Goals as goal

pub returns-clause-ok : goal.returns-clause-ok
returns-clause-ok c = λ n.
    appended_is c.args.clock c.args.self.now c.self.inside.flows.items c.self.inside.trains.items c.self.view_is
    c.deref-flow-items.result.now c.deref-train-items.result.now c.loop-flow.flow-index c.loop-train.train-index
    c.reserve.new.self.items c.loop-flow.dues.items c.loop-train.dues.items c.deref-flow-items.ensures.value c.deref-train-items.ensures.value
    (omega arith) (omega arith) c.loop-flow.invariant.appended c.loop-train.invariant.appended n
    ∙ ap (λ ds. ds ++ source_dues c.args.clock (with_traffic c.args.self.now n)) c.in_ok-reserve.ensures.items
