use Rattle.std.proofs.Common.{◌≡◌, ◌+◌, ◌∷◌, [], length, map, take, drop, sym, ap, ◌∙◌, arith}
use Rattle.std.specs.Prelude.{slice_index_or}
use Rattle.std.specs.Vec.Iter.{into_iter_items}
use Rattle.alone.specs.Reports.{trace_alone, made_alone}
use Rattle.lab.proofs.ReportTexts.{next_within, next_rest, one_made, none_behind, nothing_left}
use Rattle.lab.proofs.reports.reports_in_turn.Goals as goal

pub loop-outcome-init : goal.loop-outcome-init
loop-outcome-init c =
    let none : c.reserve.new.self.items ≡ [] = c.reserve.ensures.items ∙ c.new-reports.ensures.items in
    let all = c.into_iter-outcome-iterator.ensures.into_iter_gives in (
      all.0 ∙ c.requires ∙ ap (λ n. map trace_alone (drop n c.args.scripts.now)) (sym (ap length none)),
      none ∙ ap (λ n. map made_alone (take n c.args.scripts.now)) (sym (ap length none)),
      omega (arith, all.1, ap length all.0, c.args.outcomes.ok.0),
      omega (arith, c.in-Ok.ensures.ok),
    )

pub loop-outcome-preserved : goal.loop-outcome-preserved
loop-outcome-preserved c =
    let i = c.loop-outcome.invariant in
    let es = c.args.scripts.now in
    let reports = c.loop-outcome.reports.items in
    let steps : into_iter_items c.loop-outcome.outcome-iterator ≡ c.in-Some.outcome ∷ into_iter_items c.next.new.self = c.in-Some.ensures.steps.0 in
    let gone = c.in-Some.ensures.steps.1 in
    let more : length c.push_reserved.new.self.items ≡ length reports + 1 = omega (arith, ap length c.push_reserved.ensures.items) in
    let here : c.len.result ≡ length reports = omega (arith, c.len.ensures, c.loop-outcome.reports.ok.0) in
    let is : c.in-Some-get.script.now ≡ slice_index_or es (length reports) c.in-Some-get.script.now =
    c.in-Some-get.ensures.lookup.3.1 c.in-Some-get.script.now ∙ ap (λ n. slice_index_or es n c.in-Some-get.script.now) here in (
      next_rest trace_alone es (length reports) c.in-Some.outcome (into_iter_items c.next.new.self) (sym i.0 ∙ steps) ∙ ap (λ n. map trace_alone (drop n es)) (sym more),
      one_made made_alone es (length reports) reports c.push_reserved.new.self.items c.in-Some-get.script.now c.in_ok-report.report i.1
          (next_within trace_alone es (length reports) c.in-Some.outcome (into_iter_items c.next.new.self) (sym i.0 ∙ steps)) is c.in_ok-report.ensures.ok c.push_reserved.ensures.items
          ∙ ap (λ n. map made_alone (take n es)) (sym more),
      omega (arith, i.2, gone, ap length steps),
      omega (arith, i.3, c.push_reserved.ensures.capacity),
    )

pub returns : goal.returns
returns c =
    let i = c.loop-outcome.invariant in
    let es = c.args.scripts.now in
    let k = length c.loop-outcome.reports.items in
    let empty : into_iter_items c.loop-outcome.outcome-iterator ≡ [] = nothing_left _ (sym i.2 ∙ c.in-None.ensures.steps.0) in
    record { ok = i.1 ∙ ap (map made_alone) (none_behind trace_alone es k (sym i.0 ∙ empty)); err = tt }
