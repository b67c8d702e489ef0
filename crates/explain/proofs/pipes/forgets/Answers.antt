use Rattle.std.proofs.Common.{rules, ◌+◌, drop, ◌∙◌, ap, sym}
use Rattle.explain.specs.Pipes.{so_far}
use Rattle.explain.proofs.Behind.{at_next}
use Rattle.explain.proofs.States.{state_next, state_none, forgets_next}
use Rattle.explain.proofs.pipes.forgets.Goals as goal

pub loop-number-init : goal.loop-number-init
loop-number-init c = record {
  table = λ n. rw c.new-table.ensures (sym (state_none c.args.setting n));
  same = search rules;
}

pub loop-number-preserved : goal.loop-number-preserved
loop-number-preserved c =
    let s = c.args.setting in
    let cs = c.args.commands.now in
    let k = c.loop-number.number in
    let next = c.index-commands-number.result in
    let here = at_next cs k next c.loop-number-test.true c.index-commands-number.is in
    record {
      table = λ n. c.in_ok-note_setting.ensures n
          ∙ (ap (so_far s n next.command) (c.loop-number.invariant.table n)
          ∙ sym (state_next s n cs k next c.loop-number-test.true c.index-commands-number.is));
      same = rw (c.in_ok-put_doubt.ensures, c.forgotten_in.ensures _ c.loop-number.invariant.table)
          (forgets_next s cs k (drop k cs) (drop (k + 1) cs) next c.loop-number.out.items here ∙ c.loop-number.invariant.same);
    }
