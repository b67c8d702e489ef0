use Rattle.std.proofs.Common.{◌≡◌, ◌+◌, ap, ◌∙◌, arith}
use Rattle.control_words.specs.Text.{lines}
use Rattle.explain.specs.Lines.{nth_line}
use Rattle.explain.proofs.Numbers.{places_next}
use Rattle.explain.proofs.past.past_of.Goals as goal

pub loop-line-init : goal.loop-line-init
loop-line-init c =
    let text = lines c.args.text.now in
    record {
      places = λ k. let same : 1 + k ≡ k + 1 = omega arith in ap (λ n. nth_line n text) same;
      past = c.nothing-past.ensures text c.args.before;
    }

pub loop-line-preserved : goal.loop-line-preserved
loop-line-preserved c =
    let text = lines c.args.text.now in
    let number = c.loop-line.number in
    let same : number ≡ number + 0 = omega arith in
    let here = ap (λ n. nth_line n text) same ∙ c.loop-line.invariant.places 0 ∙ ap (nth_line 1) c.in-Some.ensures.value in
    record {
      places = places_next text _ _ number _ c.loop-line.invariant.places c.in-Some.ensures.value;
      past = c.take.ensures text c.args.before (here, omega arith) c.loop-line.invariant.past;
    }
