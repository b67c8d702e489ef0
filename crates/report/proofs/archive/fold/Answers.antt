use Rattle.std.proofs.Common.{◌≡◌, ◌+◌, ◌-◌, ◌≤◌, [], ◌∷◌, ◌++◌, drop, length, take, subst, sym, ap, ◌∙◌, append_assoc, arith}
use Rattle.std.specs.List.{All}
use Rattle.std.proofs.lemmas.List.{length-take-le, length-drop, take_all}
use Rattle.report.specs.Orders.{IsRun, in_order}
use Rattle.report.specs.declared.archive.Run.{Run}
use Rattle.report.proofs.Orders.{folded_order, folded_runs}
use Rattle.report.proofs.archive.fold.Goals as goal

pub returns-clause-order : goal.returns-clause-order
returns-clause-order c =
    let ws = c.args.words.now.items in
    let rs = c.args.runs.now.items in
    let l = c.args.listings.now in
    let tail = c.args.tail in
    let size = l.end - l.last in
    let few : tail ≤ l.last = omega (arith, c.if-last-tail.false) in
    let apart : l.before + size ≤ l.last = omega (arith, c.if-last-before.false, c.if-last-before-2.false) in
    let all : l.last + size ≡ length ws = omega (arith, c.if-end-len.false, c.if-end-last.false, c.len.ensures) in
    let same : take size (drop l.before ws) ≡ drop l.last ws =
    ap (λ v. take size (drop l.before v)) (sym c.as_slice.ensures.value)
    ∙ c.same_words.ensures c.if-not-same_words.false
    ∙ ap (λ v. take size (drop l.last v)) c.as_slice.ensures.value
    ∙ take_all size (drop l.last ws) (omega (arith, all, length-drop l.last ws))
    in
    let first : Run = record { from = tail; end = l.last } in
    let second : Run = record { from = l.before; end = l.before + size } in
    let pushed = c.push_reserved-2.ensures.items ∙ ap (λ rs. rs ++ second ∷ []) c.push_reserved.ensures.items ∙ append_assoc rs (first ∷ []) (second ∷ []) in
    (λ i. in_order (pushed i) l.last (c.truncate.ensures.items i))
    ∙ folded_order tail l.last l.before size rs few c.requires.runs apart ws all same

pub returns-clause-runs : goal.returns-clause-runs
returns-clause-runs c =
    let rs = c.args.runs.now.items in
    let l = c.args.listings.now in
    let tail = c.args.tail in
    let size = l.end - l.last in
    let few : tail ≤ l.last = omega (arith, c.if-last-tail.false) in
    let apart : l.before + size ≤ l.last = omega (arith, c.if-last-before.false, c.if-last-before-2.false) in
    let first : Run = record { from = tail; end = l.last } in
    let second : Run = record { from = l.before; end = l.before + size } in
    let pushed = c.push_reserved-2.ensures.items ∙ ap (λ rs. rs ++ second ∷ []) c.push_reserved.ensures.items ∙ append_assoc rs (first ∷ []) (second ∷ []) in
    subst (All (IsRun l.last)) (sym pushed) (folded_runs tail l.last l.before size rs few c.requires.runs apart)

pub returns-clause-few : goal.returns-clause-few
returns-clause-few c =
    let ws = c.args.words.now.items in
    let l = c.args.listings.now in
    let all : l.last + (l.end - l.last) ≡ length ws = omega (arith, c.if-end-len.false, c.if-end-last.false, c.len.ensures) in
    let long : length c.truncate.new.self.items ≡ l.last = ap length c.truncate.ensures.items ∙ length-take-le l.last ws (omega (arith, all)) in
    omega (arith, long)
