use Rattle.std.proofs.Common.{◌≡◌, ◌∙◌, ◌+◌, ◌≤◌, List, sym, subst, ap}
use Rattle.std.specs.Prelude.{All}
use Rattle.std.proofs.lemmas.List.{with_items_is}
use Rattle.emu_model.specs.Rules.{Counted, the_rules, with_rule}
use Rattle.emu_rules.specs.Walk.{IsOrdered, AreJumps}
use Rattle.emu_rules.specs.RuleCache.{AreTrueOf, settled}
use Rattle.emu_rules.proofs.RulesKept.{IsAccepted-from_none, IsOrdered-with_rule, IsSound-settled, older-with_rule, inserted, book}
use Rattle.emu_rules.proofs.list.RuleList.add.Goals as goal

pub settle-requires-clause-cache : goal.settle-requires-clause-cache
settle-requires-clause-cache c =
    let s = c.self.inside in
    let same = c.deref_mut.ensures.value ∙ c.reserve.ensures.items in
    subst (λ (cs : List Counted). AreTrueOf (the_rules cs) c.make_places-places.new.self) (sym same)
    (c.make_places-places.ensures.kept (the_rules s.rules.items) c.self.invariant.paths_are)

pub first_from-place-requires : goal.first_from-place-requires
first_from-place-requires c =
    let s = c.self.inside in
    let old = s.rules.items in
    let xs = settled s.cache old in
    let same = c.deref_mut.ensures.value ∙ c.reserve.ensures.items in
    let looked = with_items_is c.reserve.new.self c.settle.new.rules (c.settle.auto.rules ∙ c.deref_mut.ensures.len)
    ∙ c.settle.ensures.rules ∙ ap (settled c.make_places-places.new.self) same ∙ c.make_places-places.ensures.same old in
    let sound = IsSound-settled old s.jumps.items s.added s.cache c.settle.new.self c.self.invariant
    (subst (λ (cs : List Counted). AreTrueOf (the_rules cs) c.settle.new.self) same c.settle.ensures.cache) in
    subst IsOrdered (sym (c.deref-2.ensures.value ∙ looked)) sound.ordered

pub aim-requires-clause-ordered : goal.aim-requires-clause-ordered
aim-requires-clause-ordered c =
    let s = c.self.inside in
    let old = s.rules.items in
    let xs = settled s.cache old in
    let same = c.deref_mut.ensures.value ∙ c.reserve.ensures.items in
    let looked = with_items_is c.reserve.new.self c.settle.new.rules (c.settle.auto.rules ∙ c.deref_mut.ensures.len)
    ∙ c.settle.ensures.rules ∙ ap (settled c.make_places-places.new.self) same ∙ c.make_places-places.ensures.same old in
    let sound = IsSound-settled old s.jumps.items s.added s.cache c.settle.new.self c.self.invariant
    (subst (λ (cs : List Counted). AreTrueOf (the_rules cs) c.settle.new.self) same c.settle.ensures.cache) in
    let taken = IsAccepted-from_none c.args.rule c.args.self.now (sym c.refusal.ensures ∙ c.in_default.is) in
    let is : c.insert.new.self.items ≡ with_rule s.added c.args.rule xs =
    c.in-Ok.ensures.items ∙ inserted s.added c.args.rule xs _ c.deref-2.result.now c.new-counted.result c.number.result c.first_from-place.result looked c.deref-2.ensures.value c.new-counted.ensures c.number.ensures.number c.first_from-place.ensures.first in
    subst IsOrdered (sym (c.deref-3.ensures.value ∙ is)) (IsOrdered-with_rule s.added c.args.rule xs sound.ordered sound.older taken.forward)

pub invariant_of-self-2 : goal.invariant_of-self-2
invariant_of-self-2 c =
    let s = c.self.inside in
    let old = s.rules.items in
    let xs = settled s.cache old in
    let same = c.deref_mut.ensures.value ∙ c.reserve.ensures.items in
    let looked = with_items_is c.reserve.new.self c.settle.new.rules (c.settle.auto.rules ∙ c.deref_mut.ensures.len)
    ∙ c.settle.ensures.rules ∙ ap (settled c.make_places-places.new.self) same ∙ c.make_places-places.ensures.same old in
    let sound = IsSound-settled old s.jumps.items s.added s.cache c.settle.new.self c.self.invariant
    (subst (λ (cs : List Counted). AreTrueOf (the_rules cs) c.settle.new.self) same c.settle.ensures.cache) in
    let taken = IsAccepted-from_none c.args.rule c.args.self.now (sym c.refusal.ensures ∙ c.in_default.is) in
    let is : c.insert.new.self.items ≡ with_rule s.added c.args.rule xs =
    c.in-Ok.ensures.items ∙ inserted s.added c.args.rule xs _ c.deref-2.result.now c.new-counted.result c.number.result c.first_from-place.result looked c.deref-2.ensures.value c.new-counted.ensures c.number.ensures.number c.first_from-place.ensures.first in
    let jumps = with_items_is c.push_reserved.new.self c.aim.new.jumps (c.aim.auto.jumps ∙ c.deref_mut-2.ensures.len) in
    record {
      ordered = subst IsOrdered (sym is) (IsOrdered-with_rule s.added c.args.rule xs sound.ordered sound.older taken.forward);
      older = subst (All (λ (x : Counted). x.order ≤ s.added + 1)) (sym is) (older-with_rule s.added c.args.rule xs sound.older);
      jumps_are = subst (AreJumps (the_rules c.insert.new.self.items)) (sym jumps) (subst (λ xs. AreJumps (the_rules xs) c.aim.new.jumps) c.deref-3.ensures.value c.aim.ensures);
      paths_are = c.forget.ensures.forgot _ (the_rules c.insert.new.self.items) c.settle.ensures.cache;
    }

pub returns-clause-ok : goal.returns-clause-ok
returns-clause-ok c =
    let s = c.self.inside in
    let old = s.rules.items in
    let xs = settled s.cache old in
    let same = c.deref_mut.ensures.value ∙ c.reserve.ensures.items in
    let looked = with_items_is c.reserve.new.self c.settle.new.rules (c.settle.auto.rules ∙ c.deref_mut.ensures.len)
    ∙ c.settle.ensures.rules ∙ ap (settled c.make_places-places.new.self) same ∙ c.make_places-places.ensures.same old in
    let is : c.insert.new.self.items ≡ with_rule s.added c.args.rule xs =
    c.in-Ok.ensures.items ∙ inserted s.added c.args.rule xs _ c.deref-2.result.now c.new-counted.result c.number.result c.first_from-place.result looked c.deref-2.ensures.value c.new-counted.ensures c.number.ensures.number c.first_from-place.ensures.first in
    rw (← c.self.view_is) (ap (λ cs. book cs (s.added + 1))
    (c.forget.ensures.same c.insert.new.self.items _ c.settle.ensures.cache c.settle.ensures.settled ∙ is))
