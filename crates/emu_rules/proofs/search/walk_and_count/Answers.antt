use Rattle.std.proofs.Common.{sym, ap, ◌∙◌, subst, ◌<◌, ◌-◌, length, slice_index, set, arith}
use Rattle.std.proofs.lemmas.List.{length-map, length-set}
use Rattle.emu_model.specs.Rules.{Counted, the_rules, verdict}
use Rattle.emu_rules.specs.Walk.{AreJumps, count_more, counted_more}
use Rattle.emu_rules.proofs.Walking.{matched_read, least_match-within, Answers-none}
use Rattle.emu_rules.proofs.Counting.{counting_ends, counting_goes, jump-counted, Leaves-none}
use Rattle.emu_rules.proofs.search.walk_and_count.Goals as goal

pub returns-in-Some-decision-clause-verdict : goal.returns-in-Some-decision-clause-verdict
returns-in-Some-decision-clause-verdict c =
    let cs = c.loop-place.rules in
    let p = c.args.packet.now in
    let q = c.args.amount in
    let old = c.args.rules.now in
    let e = sym c.in-Some.ensures in
    (counting_ends p q cs c.loop-place.from (verdict c.args.start p old) (counted_more c.args.start p q old) c.in-Some.place c.index-rules-place.result c.count_more.new.self c.in-Some-decision.verdict
    c.loop-place.invariant.answers c.loop-place.invariant.leaves e
    (matched_read p cs c.loop-place.from c.in-Some.place c.index-rules-place.result e c.index-rules-place.is)
    (c.count_more.ensures ∙ ap (count_more q) (sym c.index-rules-place.is))
    (sym c.decision.ensures ∙ c.in-Some-decision.is)).0

pub returns-in-Some-decision-clause-rules : goal.returns-in-Some-decision-clause-rules
returns-in-Some-decision-clause-rules c =
    let cs = c.loop-place.rules in
    let p = c.args.packet.now in
    let q = c.args.amount in
    let old = c.args.rules.now in
    let e = sym c.in-Some.ensures in
    (counting_ends p q cs c.loop-place.from (verdict c.args.start p old) (counted_more c.args.start p q old) c.in-Some.place c.index-rules-place.result c.count_more.new.self c.in-Some-decision.verdict
    c.loop-place.invariant.answers c.loop-place.invariant.leaves e
    (matched_read p cs c.loop-place.from c.in-Some.place c.index-rules-place.result e c.index-rules-place.is)
    (c.count_more.ensures ∙ ap (count_more q) (sym c.index-rules-place.is))
    (sym c.decision.ensures ∙ c.in-Some-decision.is)).1

pub loop-place-smaller : goal.loop-place-smaller
loop-place-smaller c =
    let cs = c.loop-place.rules in
    let p = c.args.packet.now in
    let q = c.args.amount in
    let e = sym c.in-Some.ensures in
    let jumps = c.args.jumps.now in
    let up : c.in-Some.place < slice_index jumps c.in-Some.place =
    jump-counted p q cs jumps c.in-Some.place c.index-rules-place.result c.count_more.new.self
    (subst (λ rs. AreJumps rs jumps) (sym c.loop-place.invariant.same) c.requires)
    (matched_read p cs c.loop-place.from c.in-Some.place c.index-rules-place.result e c.index-rules-place.is)
    (c.count_more.ensures ∙ ap (count_more q) (sym c.index-rules-place.is))
    (sym c.decision.ensures ∙ c.in_default-decision.is) in
    let b = least_match-within p (the_rules cs) c.loop-place.from c.in-Some.place e in
    let falls : length (set cs c.in-Some.place c.count_more.new.self) - slice_index jumps c.in-Some.place < length cs - c.loop-place.from =
    omega (arith, b.0, b.1, length-map cs (λ (c : Counted). c.rule), length-set cs c.in-Some.place c.count_more.new.self) in
    falls

pub loop-place-preserved : goal.loop-place-preserved
loop-place-preserved c =
    let cs = c.loop-place.rules in
    let p = c.args.packet.now in
    let q = c.args.amount in
    let old = c.args.rules.now in
    let e = sym c.in-Some.ensures in
    let jumps = c.args.jumps.now in
    let on =
    counting_goes p q cs jumps c.loop-place.from (verdict c.args.start p old) (counted_more c.args.start p q old) c.in-Some.place c.index-rules-place.result c.count_more.new.self
    (subst (λ rs. AreJumps rs jumps) (sym c.loop-place.invariant.same) c.requires)
    c.loop-place.invariant.answers c.loop-place.invariant.leaves e
    (matched_read p cs c.loop-place.from c.in-Some.place c.index-rules-place.result e c.index-rules-place.is)
    (c.count_more.ensures ∙ ap (count_more q) (sym c.index-rules-place.is))
    (sym c.decision.ensures ∙ c.in_default-decision.is) in
    record {
      same = on.same ∙ c.loop-place.invariant.same;
      answers = on.answers;
      leaves = on.leaves;
    }

pub returns-clause-verdict : goal.returns-clause-verdict
returns-clause-verdict c =
    let p = c.args.packet.now in
    let q = c.args.amount in
    let old = c.args.rules.now in
    Answers-none p c.loop-place.rules c.loop-place.from (verdict c.args.start p old) c.loop-place.invariant.answers (sym c.first_match.ensures ∙ c.in_default.is)

pub returns-clause-rules : goal.returns-clause-rules
returns-clause-rules c =
    let p = c.args.packet.now in
    let q = c.args.amount in
    let old = c.args.rules.now in
    Leaves-none p q c.loop-place.rules c.loop-place.from (counted_more c.args.start p q old) c.loop-place.invariant.leaves (sym c.first_match.ensures ∙ c.in_default.is)
