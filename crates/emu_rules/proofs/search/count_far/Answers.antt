use Rattle.std.proofs.Common.{◌∷◌, [], sym, ap, ◌∙◌, subst, rules}
use Rattle.emu_model.specs.Rules.{the_rules, matched_places}
use Rattle.emu_rules.specs.declared.counted.Amount.{Amount}
use Rattle.emu_rules.specs.declared.cache.RuleCache.{RuleCache}
use Rattle.emu_rules.specs.Walk.{CountsAlone, IsRecounted, counted_more}
use Rattle.emu_rules.specs.RuleCache.{settled}
use Rattle.emu_rules.proofs.Alike.{counted-alone}
use Rattle.emu_rules.proofs.Recounted.{IsRecounted-counted, rules-recounted}
use Rattle.emu_rules.proofs.Settling.{IsRecounted-count_at, IsRecounted-settled, settled-count_at, settled-walked}
use Rattle.emu_rules.proofs.search.count_far.Goals as goal

pub returns-then-not-seat-clause-counted : goal.returns-then-not-seat-clause-counted
returns-then-not-seat-clause-counted c =
    let m = c.args.cache.now in
    let cs = c.args.rules.now in
    let p = c.args.packet.now in
    ap (settled m) c.walk_and_count.ensures.rules
    ∙ ap (λ (a : Amount). settled m (counted_more c.args.start p a cs)) c.one.ensures
    ∙ settled-walked m.held.items c.args.start p cs

pub returns-then-not-seat-clause-rules : goal.returns-then-not-seat-clause-rules
returns-then-not-seat-clause-rules c =
    let cs = c.args.rules.now in
    subst (IsRecounted cs) (sym c.walk_and_count.ensures.rules)
    (IsRecounted-counted (matched_places c.args.start c.args.packet.now (the_rules cs)) c.one.result cs)

pub returns-then-found-clause-counted : goal.returns-then-found-clause-counted
returns-then-found-clause-counted c =
    let m = c.args.cache.now in
    let cs = c.args.rules.now in
    let p = c.args.packet.now in
    let start = c.args.start in
    let rule = c.count-found.result.rule in
    let rs = rules-recounted cs (settled m cs) (IsRecounted-settled m.held.items cs) in
    let found = c.count-found.ensures.found (the_rules cs) start c.requires.cache (c.seek-seat.ensures (search rules)) in
    let alone = subst (λ rs. CountsAlone start p rs rule) (sym rs) (found.alone c.if-found.true) in
    ap (λ (m : RuleCache). settled m c.count_at.new.rules) (c.count-found.ensures.alone c.if-found.true)
    ∙ ap (settled m) c.count_at.ensures
    ∙ settled-count_at m.held.items (rule ∷ []) p cs
    ∙ sym (counted-alone start p (settled m cs) rule alone)

pub returns-then-found-clause-rules : goal.returns-then-found-clause-rules
returns-then-found-clause-rules c =
    let cs = c.args.rules.now in
    subst (IsRecounted cs) (sym c.count_at.ensures) (IsRecounted-count_at (c.count-found.result.rule ∷ []) c.args.packet.now cs)

pub returns-else-found-clause-cache : goal.returns-else-found-clause-cache
returns-else-found-clause-cache c = c.count-found.ensures.kept (the_rules c.args.rules.now) c.requires.cache
