use Rattle.std.proofs.Common.{◌≡◌, true, nat_lt, set, sym, ◌∙◌, ap}
use Rattle.std.specs.Prelude.{Some, option_map}
use Rattle.std.specs.Option.{option_map_or}
use Rattle.std.proofs.lemmas.Bool.{ltb-true}
use Rattle.emu_model.specs.declared.packets.Origin.TheVariants.{ByReceiver}
use Rattle.emu_model.specs.Reno.{with_segment, missing}
use Rattle.emu_model.specs.Net.{FlowState, put_flow, make, ack_send, take_segment}
use Rattle.sources.specs.declared.sends.Sending.{Sending}
use Rattle.sources.specs.Kept.{KeptFlow, with_traffic}
use Rattle.sources.proofs.Changes.{kept, flow_at, no_flow, sound_flow}
use Rattle.sources.specs.Leaves.{expiry_due}
use Rattle.sources.specs.Sends.{may_send}
use Rattle.sources.proofs.Flows.{flow_as_before}
use Rattle.sources.proofs.Tables.{leads_changed}
use Rattle.sources.proofs.Standing.{flow_heads}
use Rattle.sources.proofs.sources.Traffic.take.Goals as goal

pub returns-in_default-clause-taken : goal.returns-in_default-clause-taken
returns-in_default-clause-taken c = λ at n.
    let m = with_traffic c.args.self.now n in
    ap (λ o. option_map_or (take_segment at c.args.first m) o m) (no_flow c.args.number c.args.self.now (sym c.in_default.is ∙ c.flow_place.ensures) n)

pub returns-in_default-clause-header : goal.returns-in_default-clause-header
returns-in_default-clause-header c = λ n.
    sym (ap (option_map (λ (f : FlowState). ack_send f.flow)) (no_flow c.args.number c.args.self.now (sym c.in_default.is ∙ c.flow_place.ensures) n))

pub take-requires : goal.take-requires
take-requires c =
    let fs = c.self.inside.flows.items in
    let ts = c.self.inside.trains.items in
    let f = c.index_mut-flow.result.now in
    let at = flow_at c.args.number c.args.self.now fs ts c.in-Some.place f c.self.view_is (sym c.in-Some.is ∙ c.flow_place.ensures) c.index_mut-flow.ensures.value in
    ltb-true 0 f.room (sym (ap (λ o. option_map_or (λ (f : KeptFlow). nat_lt 0 f.room) o true) at.first) ∙ c.requires)

pub invariant_of-self : goal.invariant_of-self
invariant_of-self c = (
  sound_flow c.self.inside.flows.items c.self.inside.trains.items _ c.index_mut-flow.result.now c.take.new.self c.self.invariant.0 c.index_mut-flow.ensures.value (ap (λ (s : FlowState). s.number) c.take.ensures.flow),
  (let at = flow_at c.args.number c.args.self.now c.self.inside.flows.items c.self.inside.trains.items c.in-Some.place
      c.index_mut-flow.result.now c.self.view_is (sym c.in-Some.is ∙ c.flow_place.ensures) c.index_mut-flow.ensures.value in
      flow_as_before c.self.inside.flows.items c.self.inside.trains.items c.self.inside.index c.in-Some.place
      c.index_mut-flow.result.now c.take.new.self c.self.invariant.1 at.within c.index_mut-flow.ensures.value
      (ap expiry_due c.take.ensures.flow) (ap may_send c.take.ensures.flow) (ap (λ (s : FlowState). s.number) c.take.ensures.flow)),
  leads_changed (λ (f : KeptFlow). f.state.number) c.self.inside.flows.items c.self.inside.flow_places c.in-Some.place c.index_mut-flow.result.now c.take.new.self c.self.invariant.2 c.index_mut-flow.ensures.value (ap (λ (s : FlowState). s.number) c.take.ensures.flow),
  c.self.invariant.3,
)

pub returns-clause-taken : goal.returns-clause-taken
returns-clause-taken c = λ at' n.
    let fs = c.self.inside.flows.items in
    let ts = c.self.inside.trains.items in
    let f = c.index_mut-flow.result.now in
    let at = flow_at c.args.number c.args.self.now fs ts c.in-Some.place f c.self.view_is (sym c.in-Some.is ∙ c.flow_place.ensures) c.index_mut-flow.ensures.value in
    let m = with_traffic c.args.self.now n in
    let new = with_traffic (kept (set fs c.in-Some.place c.take.new.self) ts) n in
    let came = with_segment c.args.first f.state.came in
    let e = c.take.ensures.flow in
    let number : c.take.new.self.state.number ≡ c.args.number = ap (λ (s : FlowState). s.number) e ∙ at.number in
    ap (λ o. option_map_or (take_segment at' c.args.first m) o m) (at.found n)
    ∙ ap (make at' (ByReceiver f.state.number (missing f.state.flow.smss came)) (ack_send f.state.flow))
    (ap (λ s. put_flow s m) (sym e) ∙ at.put c.take.new.self n number)
    ∙ ap (λ (s : Sending). make at' s.origin s.send new) (sym c.take.ensures.result)

pub returns-clause-header : goal.returns-clause-header
returns-clause-header c = λ n.
    let fs = c.self.inside.flows.items in
    let ts = c.self.inside.trains.items in
    let f = c.index_mut-flow.result.now in
    let at = flow_at c.args.number c.args.self.now fs ts c.in-Some.place f c.self.view_is (sym c.in-Some.is ∙ c.flow_place.ensures) c.index_mut-flow.ensures.value in
    ap (λ (s : Sending). Some s.send) c.take.ensures.result ∙ sym (ap (option_map (λ (f : FlowState). ack_send f.flow)) (at.found n))

pub returns-clause-heads : goal.returns-clause-heads
returns-clause-heads c =
    flow_heads c.args.self.now c.self.inside.flows.items c.self.inside.trains.items _ c.index_mut-flow.result.now c.take.new.self
    c.self.view_is c.index_mut-flow.ensures.value (ap (λ (s : FlowState). s.number) c.take.ensures.flow) (ap (λ (s : FlowState). s.flow) c.take.ensures.flow)
