use Rattle.std.proofs.Common.{◌≡◌, ◌<◌, List, ◌∙◌, length, get_or, sym, subst, ap, refl}
use Rattle.std.proofs.lemmas.List.{with_items_is}
use Rattle.std.proofs.lemmas.Option.{slice_get_read}
use Rattle.emu_model.specs.Rules.{Counted, RuleBook, the_rules}
use Rattle.emu_rules.specs.RuleCache.{AreTrueOf, settled}
use Rattle.emu_rules.specs.Sound.{IsSound}
use Rattle.emu_rules.proofs.RulesKept.{IsSound-settled}
use Rattle.emu_rules.proofs.list.RuleList.rule_at.Goals as goal

pub invariant_of-self : goal.invariant_of-self
invariant_of-self c =
    let s = c.self.inside in
    let now = c.settle.new.self in
    let is = with_items_is s.rules c.settle.new.rules (c.settle.auto.rules ∙ c.deref_mut.ensures.len)
    ∙ c.settle.ensures.rules ∙ ap (settled s.cache) c.deref_mut.ensures.value in
    let knows = subst (λ (cs : List Counted). AreTrueOf (the_rules cs) now) c.deref_mut.ensures.value c.settle.ensures.cache in
    subst (λ (cs : List Counted). IsSound cs s.jumps.items s.added now) (sym is)
    (IsSound-settled s.rules.items s.jumps.items s.added s.cache now c.self.invariant knows)

pub returns-clause-rule : goal.returns-clause-rule
returns-clause-rule c =
    let s = c.self.inside in
    let xs = settled s.cache s.rules.items in
    let place = c.args.place in
    let own = c.index.result.now in
    let is = with_items_is s.rules c.settle.new.rules (c.settle.auto.rules ∙ c.deref_mut.ensures.len)
    ∙ c.settle.ensures.rules ∙ ap (settled s.cache) c.deref_mut.ensures.value in
    let within : place < length xs =
    subst (λ (b : RuleBook). place < length b.rules) (sym c.self.view_is) c.requires in
    rw (← c.self.view_is)
    (slice_get_read xs (length xs) place own refl within (subst (λ (cs : List Counted). own ≡ get_or cs place own) is c.index.ensures))
