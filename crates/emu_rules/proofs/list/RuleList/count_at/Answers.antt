use Rattle.std.proofs.Common.{◌<◌, List, ◌∙◌, ◌∷◌, [], length, sym, subst, ap, arith}
use Rattle.std.proofs.lemmas.List.{with_items_is}
use Rattle.emu_model.specs.Rules.{Counted, RuleBook, count_at}
use Rattle.emu_rules.specs.RuleCache.{settled}
use Rattle.emu_rules.proofs.CallerLemmas.{IsRecounted-count_at, settled-count_at}
use Rattle.emu_rules.specs.Sound.{IsSound}
use Rattle.emu_rules.proofs.RulesKept.{IsSound-recounted, book, length-settled}
use Rattle.emu_rules.proofs.list.RuleList.count_at.Goals as goal

pub count_at-requires : goal.count_at-requires
count_at-requires c =
    let s = c.self.inside in
    let within : c.args.rule < length (settled s.cache s.rules.items) =
    subst (λ (b : RuleBook). c.args.rule < length b.rules) (sym c.self.view_is) c.requires in
    omega (arith, within, length-settled s.cache s.rules.items, ap (λ (cs : List Counted). length cs) c.deref_mut.ensures.value)

pub invariant_of-self : goal.invariant_of-self
invariant_of-self c =
    let s = c.self.inside in
    let ks = c.args.rule ∷ [] in
    let p = c.args.packet.now in
    let new = c.count_at.new.rules in
    let is = with_items_is s.rules new (c.count_at.auto.rules ∙ c.deref_mut.ensures.len)
    ∙ c.count_at.ensures ∙ ap (count_at ks p 0) c.deref_mut.ensures.value in
    subst (λ (cs : List Counted). IsSound cs s.jumps.items s.added s.cache) (sym is)
    (IsSound-recounted s.rules.items (count_at ks p 0 s.rules.items) s.jumps.items s.added s.cache s.cache c.self.invariant
    (IsRecounted-count_at ks p s.rules.items) c.self.invariant.paths_are)

pub returns : goal.returns
returns c =
    let s = c.self.inside in
    let ks = c.args.rule ∷ [] in
    let p = c.args.packet.now in
    let new = c.count_at.new.rules in
    let is = with_items_is s.rules new (c.count_at.auto.rules ∙ c.deref_mut.ensures.len)
    ∙ c.count_at.ensures ∙ ap (count_at ks p 0) c.deref_mut.ensures.value in
    rw (← c.self.view_is) (ap (λ cs. book cs s.added)
    (ap (settled s.cache) is ∙ settled-count_at s.cache.held.items ks p s.rules.items))
