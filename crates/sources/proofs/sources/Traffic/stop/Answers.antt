use Rattle.std.proofs.Common.{set, sym, ◌∙◌, ap}
use Rattle.std.specs.Prelude.{true}
use Rattle.std.specs.Option.{option_map_or}
use Rattle.emu_model.specs.Commands.{stop_flow}
use Rattle.sources.specs.Kept.{KeptFlow, with_traffic}
use Rattle.sources.proofs.Changes.{kept, flow_at, no_flow, sound_flow}
use Rattle.sources.proofs.Indexes.{flow_indexed}
use Rattle.sources.proofs.Tables.{leads_changed}
use Rattle.sources.proofs.sources.Traffic.stop.Goals as goal

pub returns-in_default : goal.returns-in_default
returns-in_default c = λ n.
    let m = with_traffic c.args.self.now n in
    ap (λ o. option_map_or (stop_flow m) o m) (no_flow c.args.number c.args.self.now (sym c.in_default.is ∙ c.flow_place.ensures) n)

pub invariant_of-self : goal.invariant_of-self
invariant_of-self c = (
  sound_flow c.self.inside.flows.items c.self.inside.trains.items _ c.index_mut-flow.result.now c.stop.new.self c.self.invariant.0 c.index_mut-flow.ensures.value (ap (λ (g : KeptFlow). g.state.number) c.stop.ensures),
  c.set_flow.ensures c.self.inside.flows.items c.self.inside.trains.items c.index_mut-flow.result.now c.self.invariant.1
      c.self.invariant.0.flows c.index_mut-flow.ensures.value (ap (λ (g : KeptFlow). g.state.number) c.stop.ensures),
  leads_changed (λ (f : KeptFlow). f.state.number) c.self.inside.flows.items c.self.inside.flow_places c.in-Some.place c.index_mut-flow.result.now c.stop.new.self c.self.invariant.2 c.index_mut-flow.ensures.value (ap (λ (g : KeptFlow). g.state.number) c.stop.ensures),
  c.self.invariant.3,
)

pub returns : goal.returns
returns c = λ n.
    let m = with_traffic c.args.self.now n in
    let fs = c.self.inside.flows.items in
    let ts = c.self.inside.trains.items in
    let f = c.index_mut-flow.result.now in
    let at = flow_at c.args.number c.args.self.now fs ts c.in-Some.place f c.self.view_is (sym c.in-Some.is ∙ c.flow_place.ensures) c.index_mut-flow.ensures.value in
    let g : KeptFlow = record f { state = record f.state { stopped = true } } in
    ap (λ o. option_map_or (stop_flow m) o m) (at.found n)
    ∙ at.put g n at.number
    ∙ ap (λ g. with_traffic (kept (set fs c.in-Some.place g) ts) n) (sym c.stop.ensures)

pub set_flow-requires : goal.set_flow-requires
set_flow-requires c =
    let fs = c.self.inside.flows.items in
    let ts = c.self.inside.trains.items in
    let f = c.index_mut-flow.result.now in
    let at = flow_at c.args.number c.args.self.now fs ts c.in-Some.place f c.self.view_is
    (sym c.in-Some.is ∙ c.flow_place.ensures) c.index_mut-flow.ensures.value in
    flow_indexed fs ts c.self.inside.index c.in-Some.place c.stop.new.self.state.number f c.self.invariant.1 at.within c.index_mut-flow.ensures.value (ap (λ (g : KeptFlow). g.state.number) c.stop.ensures)
