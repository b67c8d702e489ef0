use Rattle.std.proofs.Common.{◌≡◌, List, ◌∙◌, sym, subst, ap}
use Rattle.std.proofs.lemmas.List.{with_items_is}
use Rattle.emu_model.specs.Rules.{Counted, start_behind, the_rules, verdict}
use Rattle.emu_rules.specs.Walk.{CountsAlone, IsRecounted}
use Rattle.emu_rules.specs.RuleCache.{AreTrueOf, settled}
use Rattle.emu_rules.specs.Sound.{IsSound}
use Rattle.emu_rules.proofs.RulesKept.{IsSound-recounted, behind-settled, book, rules-settled, verdict-settled}
use Rattle.emu_rules.proofs.list.RuleList.classify_rule_after.Goals as goal

pub invariant_of-self : goal.invariant_of-self
invariant_of-self c =
    let s = c.self.inside in
    let old = s.rules in
    let new = c.classify.new.rules in
    let cache = c.classify.new.cache in
    let is = with_items_is old new (c.classify.auto.rules ∙ c.deref_mut.ensures.len) in
    let same = subst (λ (cs : List Counted). IsRecounted cs new) c.deref_mut.ensures.value c.classify.ensures.rules in
    let knows = subst (λ (cs : List Counted). AreTrueOf (the_rules cs) cache) c.deref_mut.ensures.value c.classify.ensures.cache in
    subst (λ (cs : List Counted). IsSound cs s.jumps.items s.added cache) (sym is)
    (IsSound-recounted old.items new s.jumps.items s.added s.cache cache c.self.invariant same knows)

pub returns-clause-verdict : goal.returns-clause-verdict
returns-clause-verdict c =
    let s = c.self.inside in
    let p = c.args.packet.now in
    let n = c.first_behind-start.result in
    let start : c.first_behind-start.result ≡ start_behind c.args.place (settled s.cache s.rules.items) =
    c.first_behind-start.ensures ∙ ap (start_behind c.args.place) c.deref.ensures.value ∙ sym (behind-settled c.args.place s.cache s.rules.items) in
    rw (← c.self.view_is)
    (c.classify.ensures.verdict
    ∙ ap (verdict n p) c.deref_mut.ensures.value
    ∙ sym (verdict-settled n p s.cache s.rules.items)
    ∙ ap (λ n. verdict n p (settled s.cache s.rules.items)) start)

pub returns-clause-same : goal.returns-clause-same
returns-clause-same c =
    let s = c.self.inside in
    let new = c.classify.new.rules in
    let cache = c.classify.new.cache in
    let is = with_items_is s.rules new (c.classify.auto.rules ∙ c.deref_mut.ensures.len) in
    rw (← c.self.view_is) (ap (λ cs. book cs s.added)
    (ap (settled cache) is ∙ c.classify.ensures.same ∙ ap (settled s.cache) c.deref_mut.ensures.value))

pub returns-clause-rule : goal.returns-clause-rule
returns-clause-rule c = rw (← c.self.view_is) (λ known.
    let s = c.self.inside in
    let p = c.args.packet.now in
    let cs = s.rules.items in
    let n = c.first_behind-start.result in
    let start : c.first_behind-start.result ≡ start_behind c.args.place (settled s.cache s.rules.items) =
    c.first_behind-start.ensures ∙ ap (start_behind c.args.place) c.deref.ensures.value ∙ sym (behind-settled c.args.place s.cache s.rules.items) in
    let alone = subst (λ (xs : List Counted). CountsAlone n p (the_rules xs) c.classify.result.rule) c.deref_mut.ensures.value (c.classify.ensures.rule known) in
    subst (λ n. CountsAlone n p (the_rules (settled s.cache cs)) c.classify.result.rule) start
    (subst (λ rs. CountsAlone n p rs c.classify.result.rule) (sym (rules-settled s.cache cs)) alone))
