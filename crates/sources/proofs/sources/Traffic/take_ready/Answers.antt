use Rattle.std.proofs.Common.{◌≡◌, ℕ, refl, true, nat_lt, sym, ◌∙◌, ap, subst}
use Rattle.std.specs.Prelude.{IsOk, OnOk, OnErr}
use Rattle.std.specs.Option.{option_map_or}
use Rattle.emu_model.specs.Net.{FlowState}
use Rattle.sources.specs.Kept.{KeptFlow, HasRoomFor}
use Rattle.sources.proofs.Changes.{flow_at, no_first, room_kept, sound_flow}
use Rattle.std.specs.Prelude.{Result, Ok, Err}
use Rattle.std.proofs.lemmas.Bool.{lt-ltb}
use Rattle.sources.specs.Leaves.{expiry_due}
use Rattle.sources.specs.Sends.{may_send}
use Rattle.sources.proofs.Flows.{flow_as_before}
use Rattle.sources.proofs.Tables.{leads_changed}
use Rattle.sources.proofs.Standing.{flow_heads}
use Rattle.sources.proofs.sources.Traffic.take_ready.Goals as goal

on_ok : {T E : Type 0} (P Q : Type 0) (r : Result T E) → (P → Q) → OnOk r P → OnOk r Q
on_ok P Q (Ok x) f h = f h
on_ok P Q (Err e) f h = h

unrefused : {T E : Type 0} (r : Result T E) (n : ℕ) → OnErr r (n ≡ 0) → nat_lt 0 n ≡ true → IsOk r
unrefused (Ok x) n e h = refl
unrefused (Err x) n e h = let bad : nat_lt 0 0 ≡ true = ap (nat_lt 0) (sym e) ∙ h in absurd (cc)

pub returns-in_default-clause-ready : goal.returns-in_default-clause-ready
returns-in_default-clause-ready c =
    ap (λ o. option_map_or (λ (f : KeptFlow). nat_lt 0 f.room) o true) (no_first c.args.number c.args.self.now (sym c.in_default.is ∙ c.flow_place.ensures))

pub invariant_of-self : goal.invariant_of-self
invariant_of-self c = (
  sound_flow c.self.inside.flows.items c.self.inside.trains.items _ c.index_mut-flow.result.now c.take_ready.new.self c.self.invariant.0 c.index_mut-flow.ensures.value (ap (λ (s : FlowState). s.number) c.take_ready.ensures.state),
  (let at = flow_at c.args.number c.args.self.now c.self.inside.flows.items c.self.inside.trains.items c.in-Some.place
      c.index_mut-flow.result.now c.self.view_is (sym c.in-Some.is ∙ c.flow_place.ensures) c.index_mut-flow.ensures.value in
      flow_as_before c.self.inside.flows.items c.self.inside.trains.items c.self.inside.index c.in-Some.place
      c.index_mut-flow.result.now c.take_ready.new.self c.self.invariant.1 at.within c.index_mut-flow.ensures.value
      (ap expiry_due c.take_ready.ensures.state) (ap may_send c.take_ready.ensures.state) (ap (λ (s : FlowState). s.number) c.take_ready.ensures.state)),
  leads_changed (λ (f : KeptFlow). f.state.number) c.self.inside.flows.items c.self.inside.flow_places c.in-Some.place c.index_mut-flow.result.now c.take_ready.new.self c.self.invariant.2 c.index_mut-flow.ensures.value (ap (λ (s : FlowState). s.number) c.take_ready.ensures.state),
  c.self.invariant.3,
)

pub returns-clause-ready : goal.returns-clause-ready
returns-clause-ready c =
    let fs = c.self.inside.flows.items in
    let ts = c.self.inside.trains.items in
    let f = c.index_mut-flow.result.now in
    let at = flow_at c.args.number c.args.self.now fs ts c.in-Some.place f c.self.view_is (sym c.in-Some.is ∙ c.flow_place.ensures) c.index_mut-flow.ensures.value in
    let g = c.take_ready.new.self in
    let here = at.after g (ap (λ (s : FlowState). s.number) c.take_ready.ensures.state ∙ at.number) in
    on_ok _ _ c.take_ready.result (λ room. ap (λ o. option_map_or (λ (f : KeptFlow). nat_lt 0 f.room) o true) here ∙ lt-ltb 0 g.room room) c.take_ready.ensures.ready

pub returns-clause-same : goal.returns-clause-same
returns-clause-same c = λ n.
    let fs = c.self.inside.flows.items in
    let ts = c.self.inside.trains.items in
    let f = c.index_mut-flow.result.now in
    let at = flow_at c.args.number c.args.self.now fs ts c.in-Some.place f c.self.view_is (sym c.in-Some.is ∙ c.flow_place.ensures) c.index_mut-flow.ensures.value in
    at.still c.take_ready.new.self n c.take_ready.ensures.state

pub returns-clause-others : goal.returns-clause-others
returns-clause-others c k room =
    let fs = c.self.inside.flows.items in
    let ts = c.self.inside.trains.items in
    let f = c.index_mut-flow.result.now in
    let at = flow_at c.args.number c.args.self.now fs ts c.in-Some.place f c.self.view_is (sym c.in-Some.is ∙ c.flow_place.ensures) c.index_mut-flow.ensures.value in
    room_kept k fs c.in-Some.place f c.take_ready.new.self at.within c.index_mut-flow.ensures.value c.take_ready.ensures.state c.take_ready.ensures.grows (subst (HasRoomFor k) (sym c.self.view_is) room)

pub returns-clause-succeeds : goal.returns-clause-succeeds
returns-clause-succeeds c room =
    let fs = c.self.inside.flows.items in
    let ts = c.self.inside.trains.items in
    let f = c.index_mut-flow.result.now in
    let at = flow_at c.args.number c.args.self.now fs ts c.in-Some.place f c.self.view_is (sym c.in-Some.is ∙ c.flow_place.ensures) c.index_mut-flow.ensures.value in
    unrefused c.take_ready.result f.room c.take_ready.ensures.refused
    (sym (ap (λ o. option_map_or (λ (f : KeptFlow). nat_lt 0 f.room) o true) at.first) ∙ room)

pub returns-clause-heads : goal.returns-clause-heads
returns-clause-heads c =
    flow_heads c.args.self.now c.self.inside.flows.items c.self.inside.trains.items _ c.index_mut-flow.result.now c.take_ready.new.self
    c.self.view_is c.index_mut-flow.ensures.value (ap (λ (s : FlowState). s.number) c.take_ready.ensures.state) (ap (λ (s : FlowState). s.flow) c.take_ready.ensures.state)
