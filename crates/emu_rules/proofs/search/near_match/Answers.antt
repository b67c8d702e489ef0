use Rattle.std.proofs.Common.{◌≡◌, ◌≤◌, ◌<◌, length, get_or, sym, ap, ◌∙◌, arith, below_more, false}
use Rattle.std.proofs.lemmas.List.{length-map}
use Rattle.emu_model.specs.Rules.{Counted, the_rules, rule_matches, default_rule}
use Rattle.emu_rules.proofs.Walking.{least_match-is, least_match-none, rule_read}
use Rattle.emu_rules.proofs.search.near_match.Goals as goal

pub returns-then-matches : goal.returns-then-matches
returns-then-matches c =
    let cs = c.args.rules.now in
    let p = c.args.packet.now in
    let within : c.loop-place.place < length cs = omega arith in
    let read = rule_read cs c.loop-place.place c.index-rules-place.result default_rule.rule within c.index-rules-place.is in
    sym
    (least_match-is p (the_rules cs) c.args.from c.loop-place.place default_rule.rule
    c.loop-place.auto.place
    (omega (arith, length-map cs (λ (c : Counted). c.rule)))
    c.loop-place.invariant
    (ap (rule_matches p) read ∙ sym c.matches.ensures ∙ c.if-matches.true))

pub loop-place-preserved : goal.loop-place-preserved
loop-place-preserved c =
    let cs = c.args.rules.now in
    let p = c.args.packet.now in
    let within : c.loop-place.place < length cs = omega arith in
    let read = rule_read cs c.loop-place.place c.index-rules-place.result default_rule.rule within c.index-rules-place.is in
    λ j low below. below_more (λ j. c.args.from ≤ j → rule_matches p (get_or (the_rules cs) j default_rule.rule) ≡ false) c.loop-place.place
    (λ j below low. c.loop-place.invariant j low below)
    (λ _. ap (rule_matches p) read ∙ sym c.matches.ensures ∙ c.if-matches.false)
    j below low

pub returns : goal.returns
returns c =
    let cs = c.args.rules.now in
    sym
    (least_match-none c.args.packet.now (the_rules cs) c.args.from default_rule.rule
    (λ j low below. c.loop-place.invariant j low (omega (arith, below, length-map cs (λ (c : Counted). c.rule)))))
