use Rattle.std.proofs.Common.{◌≡◌, sym, ◌∙◌, ap, subst}
use Rattle.std.proofs.Common.{◌<◌, ◌==◌, List, length}
use Rattle.std.specs.Prelude.{None, position}
use Rattle.emu_model.specs.Net.{TrainState}
use Rattle.std.proofs.Common.{◌≤◌, ◌++◌, [], ◌∷◌, arith}
use Rattle.sources.specs.Kept.{IsSound}
use Rattle.sources.specs.Leaves.{AreIndexed}
use Rattle.sources.specs.Tables.{LeadsTo}
use Rattle.sources.proofs.Beginnings.{sound_with_train, no_train_there}
use Rattle.sources.proofs.Tables.{leads_on}
use Rattle.sources.proofs.sources.Traffic.start_train.Goals as goal

pub invariant_of-self-2 : goal.invariant_of-self-2
invariant_of-self-2 c =
    let fs = c.self.inside.flows.items in
    let ts = c.self.inside.trains.items in
    let number = λ (u : TrainState). u.number in
    let is : c.push_reserved.new.self.items ≡ ts ++ c.new-train.result ∷ [] =
    c.push_reserved.ensures.items ∙ ap (λ ts. ts ++ c.new-train.result ∷ []) c.in_ok-reserve.ensures.items in
    let low : 1 ≤ c.args.number = omega (arith, c.get.ensures.value, c.get.ensures.low) in
    let high : c.args.number ≤ 65535 = omega (arith, c.get.ensures.value, c.get.ensures.high) in
    let named = ap (λ (u : TrainState). u.number) c.new-train.ensures in
    let table : LeadsTo number ts c.make_room.new.self = λ k. c.make_room.ensures.same k ∙ c.self.invariant.3 k in
    let none = subst (λ k. position (λ u. number u == k) ts ≡ None) (sym c.get-2.ensures.value)
    (no_train_there c.args.number c.args.self.now fs ts c.self.view_is c.requires.free) in
    let entry : c.get-2.result < length c.make_room.new.self =
    omega (arith, c.in_ok-make_room.ensures.ready, c.get.ensures.value, c.get-2.ensures.value) in
    let last : c.len.result ≡ length ts = omega (arith, c.len.ensures, c.self.inside.trains.ok.0, c.in_ok-reserve.ensures.len) in (
      subst (λ ts. IsSound fs ts) (sym is)
          (sound_with_train c.args.number c.args.self.now _ _ c.new-train.result c.self.view_is c.requires.free c.self.invariant.0 (low, high) named),
      subst (λ ts. AreIndexed fs ts c.add_train.new.self) (sym is)
          (c.add_train.ensures fs ts (c.train_ready.ensures.same fs ts c.self.invariant.1)),
      c.self.invariant.2,
      leads_on number ts c.push_reserved.new.self.items c.make_room.new.self c.set.new.self c.get-2.result c.len.result c.new-train.result
          is c.set.ensures table none entry last (named ∙ sym c.get-2.ensures.value),
    )

pub invariant_of-self-in_err-train_ready : goal.invariant_of-self-in_err-train_ready
invariant_of-self-in_err-train_ready c =
    let fs = c.self.inside.flows.items in
    let ts = c.self.inside.trains.items in
    let items = sym c.in_ok-reserve.ensures.items in (
      subst (λ ts. IsSound fs ts) items c.self.invariant.0,
      subst (λ ts. AreIndexed fs ts c.train_ready.new.self) items (c.train_ready.ensures.same fs ts c.self.invariant.1),
      c.self.invariant.2,
      λ k. c.make_room.ensures.same k ∙ c.self.invariant.3 k ∙ ap (λ (ts : List TrainState). position (λ u. u.number == k) ts) items,
    )
