use Rattle.std.proofs.Common.{◌≡◌, ℕ, set, sym, ◌∙◌, ap}
use Rattle.std.specs.Option.{option_map_or}
use Rattle.emu_model.specs.declared.records.Record.TheVariants.{TimerExpired}
use Rattle.emu_model.specs.Reno.{expire as expired}
use Rattle.emu_model.specs.declared.commands.EventContext.{EventContext}
use Rattle.emu_model.specs.Net.{Net, FlowState, put_flow, note}
use Rattle.emu_model.specs.Events.{expire_flow}
use Rattle.sources.specs.declared.sends.Window.{Window}
use Rattle.sources.specs.Kept.{KeptFlow, KeptTraffic, with_traffic}
use Rattle.sources.proofs.Changes.{kept, IsFlowAt, flow_at, no_flow, sound_flow}
use Rattle.sources.proofs.Indexes.{flow_indexed}
use Rattle.sources.proofs.Tables.{leads_changed}
use Rattle.sources.proofs.Standing.{flow_heads}
use Rattle.sources.proofs.sources.Traffic.expire.Goals as goal

-- what an expiry leaves
expired_at : {k : ℕ} {t : KeptTraffic} {fs : _} {ts : _} {i : ℕ} {f : KeptFlow} (at : IsFlowAt k t fs ts i f) (g : KeptFlow) (now : ℕ) (w : Window) →
    g ≡ record f { state = record f.state { sender = expired f.state.flow now f.state.sender } } →
    w ≡ record { cwnd = g.state.sender.cwnd; ssthresh = g.state.sender.ssthresh } →
    (s : EventContext) (n : Net) → s.now ≡ now → expire_flow s (with_traffic t n) f.state
    ≡ note (TimerExpired now k w.cwnd w.ssthresh) (with_traffic (kept (set fs i g) ts) n)
expired_at {k} {t} {fs} {ts} {i} {f} at g now w e shown s n moment =
    let m = with_traffic t n in
    let after = λ (x : ℕ). expired f.state.flow x f.state.sender in
    let put = λ (x : ℕ). let h : FlowState = record f.state { sender = after x } in put_flow h m in
    let new = with_traffic (kept (set fs i g) ts) n in
    ap (λ x. note (TimerExpired x f.state.number (after x).cwnd (after x).ssthresh) (put x)) moment
    ∙ ap (λ j. note (TimerExpired now j (after now).cwnd (after now).ssthresh) (put now)) at.number
    ∙ ap (λ (h : KeptFlow). note (TimerExpired now k h.state.sender.cwnd h.state.sender.ssthresh) (put_flow h.state m)) (sym e)
    ∙ ap (note (TimerExpired now k g.state.sender.cwnd g.state.sender.ssthresh)) (at.put g n (ap (λ (h : KeptFlow). h.state.number) e ∙ at.number))
    ∙ ap (λ (w : Window). note (TimerExpired now k w.cwnd w.ssthresh) new) (sym shown)

pub returns-in_default-clause-expired : goal.returns-in_default-clause-expired
returns-in_default-clause-expired c = λ s n moment.
    let m = with_traffic c.args.self.now n in
    ap (λ o. option_map_or (expire_flow s m) o m) (no_flow c.args.number c.args.self.now (sym c.in_default.is ∙ c.flow_place.ensures) n)

pub invariant_of-self : goal.invariant_of-self
invariant_of-self c = (
  sound_flow c.self.inside.flows.items c.self.inside.trains.items _ c.index_mut-flow.result.now c.expire-window.new.self c.self.invariant.0 c.index_mut-flow.ensures.value (ap (λ (g : KeptFlow). g.state.number) c.expire-window.ensures.flow),
  c.set_flow.ensures c.self.inside.flows.items c.self.inside.trains.items c.index_mut-flow.result.now c.self.invariant.1
      c.self.invariant.0.flows c.index_mut-flow.ensures.value (ap (λ (g : KeptFlow). g.state.number) c.expire-window.ensures.flow),
  leads_changed (λ (f : KeptFlow). f.state.number) c.self.inside.flows.items c.self.inside.flow_places c.in-Some.place c.index_mut-flow.result.now c.expire-window.new.self c.self.invariant.2 c.index_mut-flow.ensures.value (ap (λ (g : KeptFlow). g.state.number) c.expire-window.ensures.flow),
  c.self.invariant.3,
)

pub returns-clause-expired : goal.returns-clause-expired
returns-clause-expired c = λ s n moment.
    let fs = c.self.inside.flows.items in
    let ts = c.self.inside.trains.items in
    let f = c.index_mut-flow.result.now in
    let at = flow_at c.args.number c.args.self.now fs ts c.in-Some.place f c.self.view_is (sym c.in-Some.is ∙ c.flow_place.ensures) c.index_mut-flow.ensures.value in
    let m = with_traffic c.args.self.now n in
    ap (λ o. option_map_or (expire_flow s m) o m) (at.found n)
    ∙ expired_at at c.expire-window.new.self c.args.now c.expire-window.result c.expire-window.ensures.flow c.expire-window.ensures.window s n moment

pub set_flow-requires : goal.set_flow-requires
set_flow-requires c =
    let fs = c.self.inside.flows.items in
    let ts = c.self.inside.trains.items in
    let f = c.index_mut-flow.result.now in
    let at = flow_at c.args.number c.args.self.now fs ts c.in-Some.place f c.self.view_is
    (sym c.in-Some.is ∙ c.flow_place.ensures) c.index_mut-flow.ensures.value in
    flow_indexed fs ts c.self.inside.index c.in-Some.place c.expire-window.new.self.state.number f c.self.invariant.1 at.within c.index_mut-flow.ensures.value (ap (λ (g : KeptFlow). g.state.number) c.expire-window.ensures.flow)

pub returns-clause-heads : goal.returns-clause-heads
returns-clause-heads c =
    flow_heads c.args.self.now c.self.inside.flows.items c.self.inside.trains.items _ c.index_mut-flow.result.now c.expire-window.new.self
    c.self.view_is c.index_mut-flow.ensures.value (ap (λ (g : KeptFlow). g.state.number) c.expire-window.ensures.flow) (ap (λ (g : KeptFlow). g.state.flow) c.expire-window.ensures.flow)
