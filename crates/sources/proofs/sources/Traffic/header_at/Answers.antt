use Rattle.std.proofs.Common.{sym, ◌∙◌, ap}
use Rattle.std.specs.Prelude.{Some}
use Rattle.sources.proofs.Standing.{flow_send_is, train_send_is}
use Rattle.sources.proofs.sources.Traffic.header_at.Goals as goal

pub returns-in-Flow : goal.returns-in-Flow
returns-in-Flow c = λ k n place.
    flow_send_is c.args.self.now c.self.inside.flows.items c.self.inside.trains.items c.in-Flow.place c.index.result.now
    c.self.view_is c.self.invariant.0 c.index.ensures k n (place ∙ ap Some c.in-Flow.is)
    ∙ ap Some (sym c.send.ensures)

pub returns-in-Train : goal.returns-in-Train
returns-in-Train c = λ k n place.
    train_send_is c.args.self.now c.self.inside.flows.items c.self.inside.trains.items c.in-Train.place c.index-in-Train.result.now
    c.self.view_is c.index-in-Train.ensures k n (place ∙ ap Some c.in-Train.is)
    ∙ ap Some (sym c.send-in-Train.ensures)
