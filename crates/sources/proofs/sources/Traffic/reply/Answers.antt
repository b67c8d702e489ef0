use Rattle.std.proofs.Common.{sym, ◌∙◌, ap}
use Rattle.std.specs.Prelude.{Some, option_map}
use Rattle.emu_model.specs.Net.{FlowState, ack_send}
use Rattle.sources.proofs.Changes.{flow_at, no_flow}
use Rattle.sources.proofs.Standing.{flow_few, replies}
use Rattle.sources.proofs.sources.Traffic.reply.Goals as goal

pub returns-in_default-clause-header : goal.returns-in_default-clause-header
returns-in_default-clause-header c = λ n.
    sym (ap (option_map (λ (f : FlowState). ack_send f.flow)) (no_flow c.args.number c.args.self.now (sym c.in_default.is ∙ c.flow_place.ensures) n))

pub returns-clause-header : goal.returns-clause-header
returns-clause-header c = λ n.
    let fs = c.self.inside.flows.items in
    let ts = c.self.inside.trains.items in
    let f = c.index-flow.result.now in
    let at = flow_at c.args.number c.args.self.now fs ts c.in-Some.place f c.self.view_is (sym c.in-Some.is ∙ c.flow_place.ensures) c.index-flow.ensures in
    ap Some c.reply.ensures ∙ sym (ap (option_map (λ (f : FlowState). ack_send f.flow)) (at.found n))

pub returns-clause-place : goal.returns-clause-place
returns-clause-place c =
    let fs = c.self.inside.flows.items in
    let ts = c.self.inside.trains.items in
    let place = sym c.in-Some.is ∙ c.flow_place.ensures in
    let is = c.self.view_is in
    let sound = c.self.invariant.0 in (
      flow_few c.args.number c.in-Some.place c.args.self.now fs ts is sound place,
      replies c.args.number c.in-Some.place c.args.self.now fs ts is sound c.index-flow.result.now place c.index-flow.ensures ∙ ap Some (sym c.reply.ensures),
    )
