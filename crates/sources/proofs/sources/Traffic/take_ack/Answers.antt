use Rattle.std.proofs.Common.{◌≡◌, ℕ, set, sym, ◌∙◌, ap}
use Rattle.std.specs.Prelude.{Option, Some, None, IfSome, IfNone}
use Rattle.std.specs.Option.{option_map_or}
use Rattle.emu_model.specs.declared.records.Record.TheVariants.{AckTaken}
use Rattle.emu_model.specs.Net.{Net, put_flow, note}
use Rattle.emu_model.specs.Net.{take_ack as acknowledged}
use Rattle.sources.specs.declared.sends.Window.{Window}
use Rattle.sources.specs.Kept.{KeptFlow, KeptTraffic, with_traffic}
use Rattle.sources.proofs.Changes.{kept, IsFlowAt, flow_at, no_flow, sound_flow}
use Rattle.sources.proofs.Indexes.{flow_indexed}
use Rattle.sources.proofs.Tables.{leads_changed}
use Rattle.sources.proofs.Standing.{flow_heads}
use Rattle.sources.proofs.sources.Traffic.take_ack.Goals as goal

-- what an acknowledgement leaves, taken or not
taken_at : {k : ℕ} {t : KeptTraffic} {fs : _} {ts : _} {i : ℕ} {f : KeptFlow} (at : IsFlowAt k t fs ts i f) (g : KeptFlow) (now upto : ℕ) (r : Option Window) →
    g.state.number ≡ f.state.number →
    IfSome r (λ w. (n : Net) → acknowledged now upto n f.state ≡ note (AckTaken now f.state.number w.cwnd w.ssthresh) (put_flow g.state n)) →
    IfNone r ((n : Net) → acknowledged now upto n f.state ≡ n) →
    IfNone r (g ≡ f) →
    (n : Net) → acknowledged now upto (with_traffic t n) f.state
    ≡ option_map_or (λ (w : Window). note (AckTaken now k w.cwnd w.ssthresh) (with_traffic (kept (set fs i g) ts) n)) r (with_traffic (kept (set fs i g) ts) n)
taken_at {k} {t} {fs} {ts} {i} {f} at g now upto (Some w) number taken ignored same n =
    taken (with_traffic t n)
    ∙ ap (λ j. note (AckTaken now j w.cwnd w.ssthresh) (put_flow g.state (with_traffic t n))) at.number
    ∙ ap (note (AckTaken now k w.cwnd w.ssthresh)) (at.put g n (number ∙ at.number))
taken_at {k} {t} {fs} {ts} {i} {f} at g now upto None number taken ignored same n =
    ignored (with_traffic t n) ∙ sym (at.still g n (ap (λ (g : KeptFlow). g.state) same))

pub returns-in_default-clause-taken : goal.returns-in_default-clause-taken
returns-in_default-clause-taken c = λ n.
    let m = with_traffic c.args.self.now n in
    ap (λ o. option_map_or (acknowledged c.args.now c.args.upto m) o m) (no_flow c.args.number c.args.self.now (sym c.in_default.is ∙ c.flow_place.ensures) n)

pub invariant_of-self : goal.invariant_of-self
invariant_of-self c = (
  sound_flow c.self.inside.flows.items c.self.inside.trains.items _ c.index_mut-flow.result.now c.take_ack-window.new.self c.self.invariant.0 c.index_mut-flow.ensures.value (c.take_ack-window.ensures.number),
  c.set_flow.ensures c.self.inside.flows.items c.self.inside.trains.items c.index_mut-flow.result.now c.self.invariant.1
      c.self.invariant.0.flows c.index_mut-flow.ensures.value c.take_ack-window.ensures.number,
  leads_changed (λ (f : KeptFlow). f.state.number) c.self.inside.flows.items c.self.inside.flow_places c.in-Some.place c.index_mut-flow.result.now c.take_ack-window.new.self c.self.invariant.2 c.index_mut-flow.ensures.value (c.take_ack-window.ensures.number),
  c.self.invariant.3,
)

pub returns-clause-taken : goal.returns-clause-taken
returns-clause-taken c = λ n.
    let fs = c.self.inside.flows.items in
    let ts = c.self.inside.trains.items in
    let f = c.index_mut-flow.result.now in
    let at = flow_at c.args.number c.args.self.now fs ts c.in-Some.place f c.self.view_is (sym c.in-Some.is ∙ c.flow_place.ensures) c.index_mut-flow.ensures.value in
    let m = with_traffic c.args.self.now n in
    ap (λ o. option_map_or (acknowledged c.args.now c.args.upto m) o m) (at.found n)
    ∙ taken_at at c.take_ack-window.new.self c.args.now c.args.upto c.take_ack-window.result c.take_ack-window.ensures.number c.take_ack-window.ensures.taken c.take_ack-window.ensures.ignored c.take_ack-window.ensures.same n

pub set_flow-requires : goal.set_flow-requires
set_flow-requires c =
    let fs = c.self.inside.flows.items in
    let ts = c.self.inside.trains.items in
    let f = c.index_mut-flow.result.now in
    let at = flow_at c.args.number c.args.self.now fs ts c.in-Some.place f c.self.view_is
    (sym c.in-Some.is ∙ c.flow_place.ensures) c.index_mut-flow.ensures.value in
    flow_indexed fs ts c.self.inside.index c.in-Some.place c.take_ack-window.new.self.state.number f c.self.invariant.1 at.within c.index_mut-flow.ensures.value c.take_ack-window.ensures.number

pub returns-clause-heads : goal.returns-clause-heads
returns-clause-heads c =
    flow_heads c.args.self.now c.self.inside.flows.items c.self.inside.trains.items _ c.index_mut-flow.result.now c.take_ack-window.new.self
    c.self.view_is c.index_mut-flow.ensures.value c.take_ack-window.ensures.number c.take_ack-window.ensures.header
