use Rattle.std.proofs.Common.{◌≡◌, sym, ◌∙◌, ap, subst}
use Rattle.std.proofs.Common.{◌<◌, ◌==◌, List, length}
use Rattle.std.specs.Prelude.{None, position}
use Rattle.emu_model.specs.Net.{FlowState}
use Rattle.std.proofs.Common.{◌≤◌, ◌++◌, [], ◌∷◌, arith}
use Rattle.sources.specs.Kept.{KeptFlow, IsSound}
use Rattle.sources.specs.Leaves.{AreIndexed}
use Rattle.sources.specs.Tables.{LeadsTo}
use Rattle.sources.proofs.Beginnings.{sound_with_flow, no_flow_there}
use Rattle.sources.proofs.Tables.{leads_on}
use Rattle.sources.proofs.sources.Traffic.start_flow.Goals as goal

pub invariant_of-self-2 : goal.invariant_of-self-2
invariant_of-self-2 c =
    let fs = c.self.inside.flows.items in
    let ts = c.self.inside.trains.items in
    let number = λ (f : KeptFlow). f.state.number in
    let is : c.push_reserved.new.self.items ≡ fs ++ c.new-flow.result ∷ [] =
    c.push_reserved.ensures.items ∙ ap (λ fs. fs ++ c.new-flow.result ∷ []) c.in_ok-reserve.ensures.items in
    let low : 1 ≤ c.args.number = omega (arith, c.get.ensures.value, c.get.ensures.low) in
    let high : c.args.number ≤ 65535 = omega (arith, c.get.ensures.value, c.get.ensures.high) in
    let named = ap (λ (s : FlowState). s.number) c.new-flow.ensures in
    let table : LeadsTo number fs c.make_room.new.self = λ k. c.make_room.ensures.same k ∙ c.self.invariant.2 k in
    let none = subst (λ k. position (λ f. number f == k) fs ≡ None) (sym c.get-3.ensures.value)
    (no_flow_there c.args.number c.args.self.now fs ts c.self.view_is c.requires) in
    let entry : c.get-3.result < length c.make_room.new.self =
    omega (arith, c.in_ok-make_room.ensures.ready, c.get.ensures.value, c.get-3.ensures.value) in
    let last : c.len.result ≡ length fs = omega (arith, c.len.ensures, c.self.inside.flows.ok.0, c.in_ok-reserve.ensures.len) in (
      subst (λ fs. IsSound fs ts) (sym is)
          (sound_with_flow c.args.number c.args.self.now _ _ c.new-flow.result c.self.view_is c.requires c.self.invariant.0 (low, high) named),
      subst (λ fs. AreIndexed fs ts c.add_flow.new.self) (sym is)
          (c.add_flow.ensures fs ts (c.flow_ready.ensures.same fs ts c.self.invariant.1)),
      leads_on number fs c.push_reserved.new.self.items c.make_room.new.self c.set.new.self c.get-3.result c.len.result c.new-flow.result
          is c.set.ensures table none entry last (named ∙ sym c.get-3.ensures.value),
      c.self.invariant.3,
    )

pub invariant_of-self-in_err-flow_ready : goal.invariant_of-self-in_err-flow_ready
invariant_of-self-in_err-flow_ready c =
    let fs = c.self.inside.flows.items in
    let ts = c.self.inside.trains.items in
    let items = sym c.in_ok-reserve.ensures.items in (
      subst (λ fs. IsSound fs ts) items c.self.invariant.0,
      subst (λ fs. AreIndexed fs ts c.flow_ready.new.self) items (c.flow_ready.ensures.same fs ts c.self.invariant.1),
      λ k. c.make_room.ensures.same k ∙ c.self.invariant.2 k ∙ ap (λ (fs : List KeptFlow). position (λ f. f.state.number == k) fs) items,
      c.self.invariant.3,
    )
