use Rattle.std.proofs.Common.{◌≡◌, ◌+◌, Some, ap, ◌∙◌, arith}
use Rattle.control_words.specs.Text.{lines}
use Rattle.explain.specs.Lines.{nth_line}
use Rattle.explain.proofs.FurtherFaults.{lines_next, told_alone, told_cut}
use Rattle.explain.proofs.further.next_fault.Goals as goal

pub returns-in-Err : goal.returns-in-Err
returns-in-Err c =
    let text = lines c.args.text.now in
    let number = c.in-Some-checked_add.number in
    let same : number ≡ c.loop-line.before + 1 + 0 = omega (arith, c.in-Some-checked_add.ensures) in
    let here : nth_line number text ≡ Some c.in-Some.line.now = ap (λ n. nth_line n text) same ∙ c.loop-line.invariant.places 0 ∙ ap (nth_line 1) c.in-Some.ensures.value in
    rw c.cause_alone.ensures (told_alone text number c.args.after c.in-Some.line.now c.in-Err.fault here c.if-number-after-2.true c.in-Err.ensures.0)

pub loop-line-preserved : goal.loop-line-preserved
loop-line-preserved c =
    let e : c.in-Some-checked_add.number ≡ c.loop-line.before + 1 = omega (arith, c.in-Some-checked_add.ensures) in
    let next = lines_next (lines c.args.text.now) _ _ c.loop-line.before _ _ c.loop-line.invariant.left c.loop-line.invariant.places c.in-Some.ensures.value e in
    record { left = next.0; places = next.1 }

pub loop-line-preserved-else-number-after : goal.loop-line-preserved-else-number-after
loop-line-preserved-else-number-after c =
    let e : c.in-Some-checked_add.number ≡ c.loop-line.before + 1 = omega (arith, c.in-Some-checked_add.ensures) in
    let next = lines_next (lines c.args.text.now) _ _ c.loop-line.before _ _ c.loop-line.invariant.left c.loop-line.invariant.places c.in-Some.ensures.value e in
    record { left = next.0; places = next.1 }

pub loop-line-preserved-in-Some-checked_add : goal.loop-line-preserved-in-Some-checked_add
loop-line-preserved-in-Some-checked_add c =
    let e : c.in-Some-checked_add.number ≡ c.loop-line.before + 1 = omega (arith, c.in-Some-checked_add.ensures) in
    let next = lines_next (lines c.args.text.now) _ _ c.loop-line.before _ _ c.loop-line.invariant.left c.loop-line.invariant.places c.in-Some.ensures.value e in
    record { left = next.0; places = next.1 }

pub returns : goal.returns
returns c =
    let text = lines c.args.text.now in
    let same : c.loop-line.before + 1 ≡ c.loop-line.before + 1 + 0 = omega arith in
    let here : nth_line (c.loop-line.before + 1) text ≡ Some c.loop-line.rest.now = ap (λ n. nth_line n text) same ∙ c.loop-line.invariant.places 0 ∙ ap (nth_line 1) c.in_default.ensures.value in
    told_cut text c.loop-line.before c.args.after c.loop-line.rest.now c.cut_behind.result here c.cut_behind.ensures
