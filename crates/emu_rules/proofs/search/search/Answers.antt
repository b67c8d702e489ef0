use Rattle.std.proofs.Common.{◌≡◌, None, Some, refl, sym, ap, arith, ◌∙◌, ◌<◌, ◌-◌, length, slice_index}
use Rattle.std.specs.List.{last_or}
use Rattle.std.proofs.lemmas.List.{length-map}
use Rattle.emu_model.specs.Rules.{Counted, the_rules, least_match, matched_places}
use Rattle.emu_rules.proofs.Walking.{matched_read, jump, least_match-within}
use Rattle.emu_rules.proofs.Alone.{alone, first_goes, none_goes, first-goes_on, Lasts-ends, Lasts-goes, Lasts-none}
use Rattle.emu_rules.proofs.search.search.Goals as goal

pub loop-place-smaller : goal.loop-place-smaller
loop-place-smaller c =
    let cs = c.args.rules.now in
    let p = c.args.packet.now in
    let e = sym c.in-Some.ensures in
    let there = matched_read p cs c.loop-place.from c.in-Some.place c.index-rules-place.result e c.index-rules-place.is in
    let up = jump cs c.args.jumps.now c.in-Some.place c.index-rules-place.result c.requires there (sym c.decision.ensures ∙ c.in_default-decision.is) in
    let b = least_match-within p (the_rules cs) c.loop-place.from c.in-Some.place e in
    let falls : length cs - slice_index c.args.jumps.now c.in-Some.place < length cs - c.loop-place.from =
    omega (arith, up.1, b.0, b.1, length-map cs (λ (c : Counted). c.rule)) in
    falls

pub loop-place-preserved : goal.loop-place-preserved
loop-place-preserved c =
    let cs = c.args.rules.now in
    let p = c.args.packet.now in
    let e = sym c.in-Some.ensures in
    let want = last_or None (matched_places c.args.start p (the_rules cs)) in
    let there = matched_read p cs c.loop-place.from c.in-Some.place c.index-rules-place.result e c.index-rules-place.is in
    let on = sym c.decision.ensures ∙ c.in_default-decision.is in
    record {
      lasts = Lasts-goes p cs c.args.jumps.now c.loop-place.from c.loop-place.last want c.in-Some.place c.index-rules-place.result
          c.requires c.loop-place.invariant.lasts e there on;
      first = λ bad. absurd (cc);
      later = λ _. first_goes p cs c.args.start c.loop-place.from c.in-Some.place c.index-rules-place.result c.loop-place.is_first
          c.loop-place.invariant.first c.loop-place.invariant.later e there on;
    }

pub returns-then-is_first : goal.returns-then-is_first
returns-then-is_first c =
    let cs = c.args.rules.now in
    let p = c.args.packet.now in
    let start = c.args.start in
    let place = c.in-Some.place in
    let e = sym c.in-Some.ensures in
    let there = matched_read p cs c.loop-place.from place c.index-rules-place.result e c.index-rules-place.is in
    let ends = sym c.decision.ensures ∙ c.in-Some-decision.is in
    let from = c.loop-place.invariant.first c.if-is_first.true in
    let first : least_match p (the_rules cs) start ≡ Some place =
    sym (ap (least_match p (the_rules cs)) from) ∙ e in
    record {
      last = Lasts-ends p cs c.loop-place.from c.loop-place.last (last_or None (matched_places start p (the_rules cs))) place
          c.index-rules-place.result _ c.loop-place.invariant.lasts e there ends;
      alone = λ known. alone start p cs place c.index-rules-place.result _ first there ends;
      more = λ none. absurd (omega (arith, none, (least_match-within p (the_rules cs) start place first).1, length-map cs (λ (c : Counted). c.rule)));
    }

pub returns-else-is_first : goal.returns-else-is_first
returns-else-is_first c =
    let cs = c.args.rules.now in
    let p = c.args.packet.now in
    let start = c.args.start in
    let place = c.in-Some.place in
    let e = sym c.in-Some.ensures in
    let there = matched_read p cs c.loop-place.from place c.index-rules-place.result e c.index-rules-place.is in
    let ends = sym c.decision.ensures ∙ c.in-Some-decision.is in
    record {
      last = Lasts-ends p cs c.loop-place.from c.loop-place.last (last_or None (matched_places start p (the_rules cs))) place
          c.index-rules-place.result _ c.loop-place.invariant.lasts e there ends;
      alone = λ known. absurd (known refl);
      more = λ none. first-goes_on start p cs (c.loop-place.invariant.later c.if-is_first.false);
    }

pub returns : goal.returns
returns c =
    let cs = c.args.rules.now in
    let p = c.args.packet.now in
    let start = c.args.start in
    let e = sym c.first_match.ensures ∙ c.in_default.is in
    record {
      last = Lasts-none p (the_rules cs) c.loop-place.from c.loop-place.last (last_or None (matched_places start p (the_rules cs))) c.loop-place.invariant.lasts e;
      alone = λ known. absurd (known refl);
      more = λ none. first-goes_on start p cs (none_goes p cs start c.loop-place.from c.loop-place.is_first c.loop-place.invariant.first c.loop-place.invariant.later e);
    }
