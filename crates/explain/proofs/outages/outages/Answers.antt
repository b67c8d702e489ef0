use Rattle.std.proofs.Common.{rules, ◌+◌, drop, ◌∙◌, ap, sym}
use Rattle.explain.specs.Outages.{held_by, largest}
use Rattle.explain.proofs.Behind.{at_next}
use Rattle.explain.proofs.Rates.{ended_same, held_next, held_none, outages_next}
use Rattle.explain.proofs.outages.outages.Goals as goal

pub loop-number-init : goal.loop-number-init
loop-number-init c = record {
  rates = λ n. rw c.new-rates.ensures.items (held_none n);
  same = search rules;
}

pub loop-number-preserved : goal.loop-number-preserved
loop-number-preserved c =
    let cs = c.args.commands.now in
    let k = c.loop-number.number in
    let next = c.index-commands-number.result in
    let here = at_next cs k next c.loop-number-test.true c.index-commands-number.is in
    record {
      rates = λ n. c.in_ok-note_rate.ensures n
          ∙ (ap (held_by n k next) (c.loop-number.invariant.rates n)
          ∙ sym (held_next n cs k next c.loop-number-test.true c.index-commands-number.is));
      same = rw (c.in_ok-put_outage.ensures, c.ended_in-held.ensures, c.as_slice.ensures.value, ended_same _ _ next.command c.loop-number.invariant.rates, c.largest-size.ensures)
          (outages_next (largest cs) cs k (drop k cs) (drop (k + 1) cs) next c.loop-number.out.items here ∙ c.loop-number.invariant.same);
    }
