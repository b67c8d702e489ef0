use Rattle.std.proofs.Common.{◌≡◌, ap, refl, sym, ◌∙◌, arith}
use Rattle.std.specs.Prelude.{Some, slice_get}
use Rattle.std.specs.List.{flat_map}
use Rattle.report.specs.Archive.{entries_of}
use Rattle.report.proofs.Places.{none_at, read_at}
use Rattle.report.proofs.Taken.{read_one}
use Rattle.report.proofs.reader.nth.Goals as goal

pub returns-in_err-take_next : goal.returns-in_err-take_next
returns-in_err-take_next c =
    let all = flat_map (entries_of c.args.others.now) c.args.words in
    let none = sym c.loop-done.invariant.records ∙ (c.in_err-take_next.ensures.none refl).0 in
    c.from_residual.ensures ∙ sym (none_at all c.loop-done.done c.args.place none c.loop-done.invariant.few)

pub loop-done-preserved : goal.loop-done-preserved
loop-done-preserved c =
    let all = flat_map (entries_of c.args.others.now) c.args.words in
    let e = c.in_ok-take_next.ensures in
    let is = sym c.loop-done.invariant.records ∙ e.some.2 in
    record {
      few = omega (arith, c.loop-done-test.true);
      words = e.words;
      rest = e.left;
      records = (read_one all _ c.loop-done.done e.some.0 is).1;
    }

pub returns-in_err-word : goal.returns-in_err-word
returns-in_err-word c =
    let all = flat_map (entries_of c.args.others.now) c.args.words in
    let none = sym c.loop-done.invariant.records ∙ (c.in_err-word.ensures.none refl).0 in
    c.from_residual-in_err-word.ensures ∙ sym (none_at all c.loop-done.done c.args.place none c.loop-done.invariant.few)

pub returns : goal.returns
returns c =
    let all = flat_map (entries_of c.args.others.now) c.args.words in
    let e = c.in_ok-word.ensures in
    let is = sym c.loop-done.invariant.records ∙ e.some.2 in
    let place : c.loop-done.done ≡ c.args.place = omega (arith, c.loop-done.invariant.few, c.loop-done-test.false) in
    ap Some (c.record_at.ensures e.some.0 e.some.1)
    ∙ sym (read_at all _ c.loop-done.done e.some.0 is)
    ∙ ap (λ i. slice_get all i) place
