use Rattle.std.proofs.Common.{◌≡◌, ◌∙◌, ◌==◌, ◌≤◌, List, sym, subst, ap, rules, tests, true, false}
use Rattle.std.specs.Prelude.{not, filter, All}
use Rattle.std.specs.List.{list_any}
use Rattle.std.proofs.lemmas.Fn.{filter_same}
use Rattle.std.proofs.lemmas.Iterator.{YieldsList-from_slice}
use Rattle.std.proofs.lemmas.Iterator.Search.{any_from_yields_List}
use Rattle.std.proofs.lemmas.List.{with_items_is}
use Rattle.std.proofs.lemmas.List.Elements.{All-filter}
use Rattle.emu_model.specs.Rules.{Counted, the_rules, is_rule_number}
use Rattle.emu_rules.specs.Walk.{IsOrdered, AreJumps}
use Rattle.emu_rules.specs.RuleCache.{AreTrueOf, settled}
use Rattle.emu_rules.specs.Sound.{IsSound}
use Rattle.emu_rules.proofs.RulesKept.{IsOrdered-filter, IsSound-settled, no_rule, book}
use Rattle.emu_rules.proofs.list.RuleList.delete.Goals as goal

pub invariant_of-self : goal.invariant_of-self
invariant_of-self c =
    let s = c.self.inside in
    let now = c.settle.new.self in
    let is = with_items_is s.rules c.settle.new.rules (c.settle.auto.rules ∙ c.deref_mut.ensures.len)
    ∙ c.settle.ensures.rules ∙ ap (settled s.cache) c.deref_mut.ensures.value in
    let knows = subst (λ (cs : List Counted). AreTrueOf (the_rules cs) now) c.deref_mut.ensures.value c.settle.ensures.cache in
    subst (λ (cs : List Counted). IsSound cs s.jumps.items s.added now) (sym is)
    (IsSound-settled s.rules.items s.jumps.items s.added s.cache now c.self.invariant knows)

pub returns-then-not-any-clause-err : goal.returns-then-not-any-clause-err
returns-then-not-any-clause-err c =
    let s = c.self.inside in
    let now = c.settle.new.self in
    let is = with_items_is s.rules c.settle.new.rules (c.settle.auto.rules ∙ c.deref_mut.ensures.len)
    ∙ c.settle.ensures.rules ∙ ap (settled s.cache) c.deref_mut.ensures.value in
    rw (← c.self.view_is) (ap (λ cs. book cs s.added) (c.settle.ensures.none _ ∙ is))

pub returns-then-not-any-clause-refusal : goal.returns-then-not-any-clause-refusal
returns-then-not-any-clause-refusal c =
    let s = c.self.inside in
    let n = c.args.number in
    let xs = settled s.cache s.rules.items in
    let is = with_items_is s.rules c.settle.new.rules (c.settle.auto.rules ∙ c.deref_mut.ensures.len)
    ∙ c.settle.ensures.rules ∙ ap (settled s.cache) c.deref_mut.ensures.value in
    let any : c.any.result ≡ list_any (λ (x : Counted). x.rule.number == c.get-number.result) xs =
    any_from_yields_List (λ (x : Counted). x.rule.number == c.get-number.result) _ _ c.any.result c.any.ensures.ran (YieldsList-from_slice xs (c.iter.ensures.rest ∙ c.deref-2.ensures.value ∙ is)) (λ x b q k. search (rules, tests)) in
    let valid : is_rule_number n ≡ true = sym c.is_rule_number.ensures ∙ c.if-not-is_rule_number.false in
    let none : list_any (λ (x : Counted). x.rule.number == n) xs ≡ false =
    ap (λ m. list_any (λ (x : Counted). x.rule.number == m) xs) (sym c.get-number.ensures.value) ∙ sym any ∙ c.if-not-any.true in
    rw (← c.self.view_is) (no_rule (is_rule_number n) (list_any (λ (x : Counted). x.rule.number == n) xs) valid none)

pub aim-requires-clause-ordered : goal.aim-requires-clause-ordered
aim-requires-clause-ordered c =
    let s = c.self.inside in
    let test = λ (x : Counted). not (x.rule.number == c.get-number.result) in
    let xs = settled s.cache s.rules.items in
    let is = with_items_is s.rules c.settle.new.rules (c.settle.auto.rules ∙ c.deref_mut.ensures.len)
    ∙ c.settle.ensures.rules ∙ ap (settled s.cache) c.deref_mut.ensures.value in
    let sound = IsSound-settled s.rules.items s.jumps.items s.added s.cache c.settle.new.self c.self.invariant
    (subst (λ (cs : List Counted). AreTrueOf (the_rules cs) c.settle.new.self) c.deref_mut.ensures.value c.settle.ensures.cache) in
    let kept : c.retain.new.self.items ≡ filter test xs =
    filter_same _ test _ (λ x b f' k. search rules) _ _ c.retain.ensures.filtered ∙ ap (filter test) is in
    subst IsOrdered (sym (c.deref-3.ensures.value ∙ kept)) (IsOrdered-filter test xs sound.ordered)

pub invariant_of-self-2 : goal.invariant_of-self-2
invariant_of-self-2 c =
    let s = c.self.inside in
    let test = λ (x : Counted). not (x.rule.number == c.get-number.result) in
    let xs = settled s.cache s.rules.items in
    let is = with_items_is s.rules c.settle.new.rules (c.settle.auto.rules ∙ c.deref_mut.ensures.len)
    ∙ c.settle.ensures.rules ∙ ap (settled s.cache) c.deref_mut.ensures.value in
    let sound = IsSound-settled s.rules.items s.jumps.items s.added s.cache c.settle.new.self c.self.invariant
    (subst (λ (cs : List Counted). AreTrueOf (the_rules cs) c.settle.new.self) c.deref_mut.ensures.value c.settle.ensures.cache) in
    let kept : c.retain.new.self.items ≡ filter test xs =
    filter_same _ test _ (λ x b f' k. search rules) _ _ c.retain.ensures.filtered ∙ ap (filter test) is in
    let jumps = with_items_is c.truncate.new.self c.aim.new.jumps (c.aim.auto.jumps ∙ c.deref_mut-2.ensures.len) in
    record {
      ordered = subst IsOrdered (sym kept) (IsOrdered-filter test xs sound.ordered);
      older = subst (All (λ (x : Counted). x.order ≤ s.added)) (sym kept) (All-filter test (λ (x : Counted). x.order ≤ s.added) xs sound.older);
      jumps_are = subst (AreJumps (the_rules c.retain.new.self.items)) (sym jumps) (subst (λ xs. AreJumps (the_rules xs) c.aim.new.jumps) c.deref-3.ensures.value c.aim.ensures);
      paths_are = c.forget.ensures.forgot _ (the_rules c.retain.new.self.items) c.settle.ensures.cache;
    }

pub returns-clause-ok : goal.returns-clause-ok
returns-clause-ok c =
    let s = c.self.inside in
    let test = λ (x : Counted). not (x.rule.number == c.get-number.result) in
    let xs = settled s.cache s.rules.items in
    let is = with_items_is s.rules c.settle.new.rules (c.settle.auto.rules ∙ c.deref_mut.ensures.len)
    ∙ c.settle.ensures.rules ∙ ap (settled s.cache) c.deref_mut.ensures.value in
    let kept : c.retain.new.self.items ≡ filter test xs =
    filter_same _ test _ (λ x b f' k. search rules) _ _ c.retain.ensures.filtered ∙ ap (filter test) is in
    let same : filter test xs ≡ filter (λ (x : Counted). not (x.rule.number == c.args.number)) xs =
    ap (λ n. filter (λ (x : Counted). not (x.rule.number == n)) xs) c.get-number.ensures.value in
    rw (← c.self.view_is) (ap (λ cs. book cs s.added)
    (c.forget.ensures.same c.retain.new.self.items _ c.settle.ensures.cache c.settle.ensures.settled ∙ kept ∙ same))
