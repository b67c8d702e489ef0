use Rattle.std.proofs.Common.{List, ◌∙◌, sym, subst, ap}
use Rattle.std.proofs.lemmas.List.{with_items_is}
use Rattle.emu_model.specs.Rules.{Counted, counted_rules, the_rules, verdict}
use Rattle.emu_rules.specs.Walk.{IsRecounted}
use Rattle.emu_rules.specs.RuleCache.{AreTrueOf, settled}
use Rattle.emu_rules.specs.Sound.{IsSound}
use Rattle.emu_rules.proofs.RulesKept.{IsSound-recounted, book, verdict-settled}
use Rattle.emu_rules.proofs.list.RuleList.verdict.Goals as goal

pub invariant_of-self : goal.invariant_of-self
invariant_of-self c =
    let s = c.self.inside in
    let new = c.judge_and_count.new.rules in
    let cache = c.judge_and_count.new.cache in
    let is = with_items_is s.rules new (c.judge_and_count.auto.rules ∙ c.deref_mut.ensures.len) in
    let same = subst (λ (cs : List Counted). IsRecounted cs new) c.deref_mut.ensures.value c.judge_and_count.ensures.rules in
    let knows = subst (λ (cs : List Counted). AreTrueOf (the_rules cs) cache) c.deref_mut.ensures.value c.judge_and_count.ensures.cache in
    subst (λ (cs : List Counted). IsSound cs s.jumps.items s.added cache) (sym is)
    (IsSound-recounted s.rules.items new s.jumps.items s.added s.cache cache c.self.invariant same knows)

pub returns-clause-verdict : goal.returns-clause-verdict
returns-clause-verdict c =
    let s = c.self.inside in
    let p = c.args.packet.now in
    rw (← c.self.view_is) (c.judge_and_count.ensures.verdict ∙ ap (verdict 0 p) c.deref_mut.ensures.value ∙ sym (verdict-settled 0 p s.cache s.rules.items))

pub returns-clause-counted : goal.returns-clause-counted
returns-clause-counted c =
    let s = c.self.inside in
    let p = c.args.packet.now in
    let new = c.judge_and_count.new.rules in
    let cache = c.judge_and_count.new.cache in
    let is = with_items_is s.rules new (c.judge_and_count.auto.rules ∙ c.deref_mut.ensures.len) in
    rw (← c.self.view_is) (ap (λ cs. book cs s.added)
    (ap (settled cache) is ∙ c.judge_and_count.ensures.counted ∙ ap (λ cs. counted_rules 0 p (settled s.cache cs)) c.deref_mut.ensures.value))
