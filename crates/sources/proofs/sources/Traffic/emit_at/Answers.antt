use Rattle.std.proofs.Common.{◌∙◌, ap, subst}
use Rattle.std.specs.Prelude.{Some}
use Rattle.emu_model.specs.Net.{TrainState}
use Rattle.sources.specs.Kept.{KeptFlow}
use Rattle.sources.specs.Standing.{MaySendAt}
use Rattle.sources.proofs.Changes.{sound_flow, sound_train}
use Rattle.sources.proofs.Indexes.{flow_indexed}
use Rattle.sources.proofs.Tables.{leads_changed}
use Rattle.sources.proofs.Standing.{flow_there, flow_within, within_kept, flow_may, flow_emits, flow_heads, train_may, train_emits, train_heads}
use Rattle.sources.proofs.sources.Traffic.emit_at.Goals as goal

pub emit-origin-requires-clause-may : goal.emit-origin-requires-clause-may
emit-origin-requires-clause-may c =
    let t = c.args.self.now in
    let fs = c.self.inside.flows.items in
    let ts = c.self.inside.trains.items in
    let f = c.index_mut-flow.result.now in
    flow_may t fs ts c.in-Flow.place f c.self.view_is c.self.invariant.0 c.index_mut-flow.ensures.value
    (subst (λ p. MaySendAt p t) c.in-Flow.is c.requires.may)

pub set_flow-requires : goal.set_flow-requires
set_flow-requires c =
    let t = c.args.self.now in
    let fs = c.self.inside.flows.items in
    let ts = c.self.inside.trains.items in
    let i = c.in-Flow.place in
    let f = c.index_mut-flow.result.now in
    let g = c.emit-origin.new.self in
    let at = c.index_mut-flow.ensures.value in
    let place = flow_there c.requires.may.number i t (c.requires.may.place ∙ ap Some c.in-Flow.is) in
    let l = within_kept t fs ts i c.self.view_is (flow_within c.requires.may.number i t place) in
    flow_indexed fs ts c.self.inside.index i g.state.number f c.self.invariant.1 l at (ap (λ (g : KeptFlow). g.state.number) c.emit-origin.ensures.flow)

pub invariant_of-self : goal.invariant_of-self
invariant_of-self c =
    let t = c.args.self.now in
    let fs = c.self.inside.flows.items in
    let ts = c.self.inside.trains.items in
    let i = c.in-Flow.place in
    let f = c.index_mut-flow.result.now in
    let g = c.emit-origin.new.self in
    let at = c.index_mut-flow.ensures.value in
    let number = ap (λ (g : KeptFlow). g.state.number) c.emit-origin.ensures.flow in (
      sound_flow fs ts i f g c.self.invariant.0 at number,
      c.set_flow.ensures fs ts f c.self.invariant.1 c.self.invariant.0.flows at number,
      leads_changed (λ (f : KeptFlow). f.state.number) fs c.self.inside.flow_places i f g c.self.invariant.2 at number,
      c.self.invariant.3,
    )

pub emit-made-requires : goal.emit-made-requires
emit-made-requires c =
    let t = c.args.self.now in
    let fs = c.self.inside.flows.items in
    let ts = c.self.inside.trains.items in
    let i = c.in-Train.place in
    let u = c.index_mut-train.result.now in
    let at = c.index_mut-train.ensures.value in
    train_may t fs ts i u c.self.view_is at (subst (λ p. MaySendAt p t) c.in-Train.is c.requires.may)

pub invariant_of-self-in-Train : goal.invariant_of-self-in-Train
invariant_of-self-in-Train c =
    let t = c.args.self.now in
    let fs = c.self.inside.flows.items in
    let ts = c.self.inside.trains.items in
    let i = c.in-Train.place in
    let u = c.index_mut-train.result.now in
    let at = c.index_mut-train.ensures.value in
    let v = c.emit-made.new.self in
    let number = ap (λ (u : TrainState). u.number) c.emit-made.ensures.train in (
      sound_train fs ts i u v c.self.invariant.0 at number,
      c.set_train.ensures fs ts c.self.invariant.1,
      c.self.invariant.2,
      leads_changed (λ (u : TrainState). u.number) ts c.self.inside.train_places i u v c.self.invariant.3 at number,
    )

pub returns-in-Flow-clause-emission : goal.returns-in-Flow-clause-emission
returns-in-Flow-clause-emission c = λ s k n send moment place sends.
    let t = c.args.self.now in
    let fs = c.self.inside.flows.items in
    let ts = c.self.inside.trains.items in
    let i = c.in-Flow.place in
    let f = c.index_mut-flow.result.now in
    let g = c.emit-origin.new.self in
    let at = c.index_mut-flow.ensures.value in
    flow_emits t fs ts i f c.self.view_is c.self.invariant.0 at g c.args.now c.emit-origin.result
    c.emit-origin.ensures.flow c.emit-origin.ensures.result s k n send moment (place ∙ ap Some c.in-Flow.is) sends

pub returns-in-Flow-clause-heads : goal.returns-in-Flow-clause-heads
returns-in-Flow-clause-heads c =
    let t = c.args.self.now in
    let fs = c.self.inside.flows.items in
    let ts = c.self.inside.trains.items in
    let i = c.in-Flow.place in
    let f = c.index_mut-flow.result.now in
    let g = c.emit-origin.new.self in
    let at = c.index_mut-flow.ensures.value in
    flow_heads t fs ts i f g c.self.view_is at (ap (λ (g : KeptFlow). g.state.number) c.emit-origin.ensures.flow) (ap (λ (g : KeptFlow). g.state.flow) c.emit-origin.ensures.flow)

pub returns-in-Train-clause-emission : goal.returns-in-Train-clause-emission
returns-in-Train-clause-emission c = λ s k n send _ place sends.
    let t = c.args.self.now in
    let fs = c.self.inside.flows.items in
    let ts = c.self.inside.trains.items in
    let i = c.in-Train.place in
    let u = c.index_mut-train.result.now in
    let at = c.index_mut-train.ensures.value in
    train_emits t fs ts i u c.self.view_is at c.emit-made.new.self c.emit-made.result c.emit-made.ensures.train c.emit-made.ensures.result s k n send (place ∙ ap Some c.in-Train.is) sends

pub returns-in-Train-clause-heads : goal.returns-in-Train-clause-heads
returns-in-Train-clause-heads c =
    let t = c.args.self.now in
    let fs = c.self.inside.flows.items in
    let ts = c.self.inside.trains.items in
    let i = c.in-Train.place in
    let u = c.index_mut-train.result.now in
    let at = c.index_mut-train.ensures.value in
    train_heads t fs ts i u c.emit-made.new.self c.self.view_is at (ap (λ (u : TrainState). u.number) c.emit-made.ensures.train)
    (ap (λ (u : TrainState). u.train) c.emit-made.ensures.train)
