use Rattle.std.proofs.Common.{◌≡◌, ◌∙◌, ◌<◌, ℕ, Some, length, slice_index, slice_set, sym, ap, refl, inl, inr, arith, below_more}
use Rattle.std.proofs.lemmas.Option.{slice_get_read}
use Rattle.std.proofs.lemmas.List.{length-map, length-set, get_or-set_same, get_or-set_other}
use Rattle.emu_model.specs.declared.rules.Rule.{Rule}
use Rattle.emu_rules.specs.Walk.{target_of}
use Rattle.emu_model.specs.Rules.{Counted, the_rules, goes_on, action_at}
use Rattle.emu_rules.proofs.Walking.{action}
use Rattle.emu_rules.proofs.JumpOrder.{aimed, goes_within, jumps_forward}
use Rattle.emu_rules.proofs.search.aim.Goals as goal
use Rattle.emu_rules.proofs.search.aim.Goals.{in-Some, in-None}

pub loop-place-preserved : goal.loop-place-preserved
loop-place-preserved c =
    let cs = c.args.rules.now in
    let rs = the_rules cs in
    let place = c.loop-place.place in
    let jumps = c.loop-place.jumps in
    let v = c.match-target_of.jumps in
    let own = c.index-rules-place.result in
    let l : place < length cs = omega arith in
    let within : place < length jumps = omega (arith, c.loop-place.invariant.same) in
    let act = action cs place own (slice_get_read cs (length cs) place own refl l c.index-rules-place.is) in
    let target : target_of own.rule.action ≡ c.target_of.result =
    ap (λ (r : Rule). target_of r.action) (sym c.rule.ensures) ∙ sym c.target_of.ensures in
    record {
      same = length-set jumps place v ∙ c.loop-place.invariant.same;
      there = λ k j below g. below_more (λ k. (j : ℕ) → goes_on rs k (action_at rs k) ≡ Some j → slice_index (slice_set jumps place v) k ≡ j) place
          (λ k h j g. get_or-set_other jumps place k v 0 (λ e. absurd (omega (arith, h, e))) ∙ c.loop-place.invariant.there k j h g)
          (λ j g.
          get_or-set_same jumps place v 0 within
          ∙ aimed rs place own.rule.action v j
          (elim c.match-target_of.branch [
            | in-Some w ↦ inr (w.in-Some.number, target ∙ w.in-Some.is, w.jumps-is ∙ w.first_from.ensures.first)
            | in-None w ↦ inl (target ∙ w.in-None.is, w.jumps-is)
          ])
          (sym (ap (goes_on rs place) act) ∙ g))
          k below j g;
    }

pub returns : goal.returns
returns c =
    let cs = c.args.rules.now in
    record {
      same = c.loop-place.invariant.same ∙ sym (length-map cs (λ (c : Counted). c.rule));
      there = λ k j g. c.loop-place.invariant.there k j (omega (arith, (goes_within cs k j g).0)) g;
      forward = jumps_forward cs c.requires.ordered;
    }
