use Rattle.std.proofs.Common.{sym, ap, ◌∙◌, subst}
use Rattle.emu_model.specs.Rules.{the_rules, matched_places}
use Rattle.emu_rules.specs.declared.counted.Amount.{Amount}
use Rattle.emu_rules.specs.Walk.{IsRecounted, counted_more}
use Rattle.emu_rules.specs.RuleCache.{settled}
use Rattle.emu_rules.proofs.Recounted.{IsRecounted-counted}
use Rattle.emu_rules.proofs.Settling.{settled-walked}
use Rattle.emu_rules.proofs.search.judge_and_count.Goals as goal

pub returns-then-is_short-clause-counted : goal.returns-then-is_short-clause-counted
returns-then-is_short-clause-counted c =
    let m = c.args.cache.now in
    let cs = c.args.rules.now in
    let p = c.args.packet.now in
    ap (settled m) c.walk_and_count.ensures.rules
    ∙ ap (λ (a : Amount). settled m (counted_more c.args.start p a cs)) c.one.ensures
    ∙ settled-walked m.held.items c.args.start p cs

pub returns-then-is_short-clause-rules : goal.returns-then-is_short-clause-rules
returns-then-is_short-clause-rules c =
    let cs = c.args.rules.now in
    subst (IsRecounted cs) (sym c.walk_and_count.ensures.rules)
    (IsRecounted-counted (matched_places c.args.start c.args.packet.now (the_rules cs)) c.one.result cs)
