use Rattle.std.proofs.Common.{arith, drop, length, length-drop, subst, take, ap, ◌∙◌}
use Rattle.std.specs.Prelude.{flat_map}
use Rattle.std.proofs.lemmas.List.{drop-drop}
use Rattle.report.specs.Lines.{line_of}
use Rattle.experiment.specs.Rooms.{IsPutAt}
use Rattle.experiment.proofs.Rooms.{put_further}
use Rattle.experiment.proofs.room.put_lines.Goals as goal

pub loop-done-preserved : goal.loop-done-preserved
loop-done-preserved c =
    let inv = c.loop-done.invariant in
    let e = c.in_ok-count.ensures in
    let all = c.args.records.now in
    let i = c.loop-done.done in
    let n = c.in_ok-count.count in
    record {
      done = omega (arith, e.count.1, ap length inv.left, length-drop i all, inv.done);
      left = e.left ∙ ap (drop n) inv.left ∙ drop-drop n i all;
      put = put_further line_of all i n c.args.at c.loop-done.end c.in_ok-count.next c.args.room.now c.loop-done.room c.put_some.new.room inv.put
          (subst (λ rs. IsPutAt (flat_map line_of (take n rs)) c.loop-done.end c.loop-done.room c.put_some.new.room c.in_ok-count.next) inv.left e.put);
      room = c.put_some.ensures.room ∙ inv.room;
    }
