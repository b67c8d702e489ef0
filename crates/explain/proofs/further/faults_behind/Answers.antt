use Rattle.std.proofs.Common.{arith}
use Rattle.control_words.specs.Text.{lines}
use Rattle.explain.proofs.FurtherFaults.{told_more, last_more}
use Rattle.explain.proofs.further.faults_behind.Goals as goal

pub loop-count-preserved : goal.loop-count-preserved
loop-count-preserved c =
    let text = lines c.args.text.now in
    let first = c.args.first.now.line in
    let out = c.loop-count.out.items in
    let f = c.in-Some.fault in
    let found = rw c.in-Some.is at c.in_ok-fault.ensures in
    let next = rw (← c.loop-count.invariant.last) at found in
    let all = told_more text first out f c.loop-count.invariant.told next in
    record {
      told = rw c.in_ok-push.ensures.items all;
      last = rw c.in_ok-push.ensures.items (last_more first out f);
      few = omega (arith, c.in_ok-push.ensures.len);
    }
