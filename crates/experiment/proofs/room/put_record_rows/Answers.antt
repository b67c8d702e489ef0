use Rattle.std.proofs.Common.{arith, drop, length, length-drop, rules, subst, take, ap, ◌∙◌}
use Rattle.std.specs.Prelude.{flat_map}
use Rattle.std.proofs.lemmas.List.{drop-drop}
use Rattle.report.specs.Rows.{record_bytes}
use Rattle.experiment.specs.Rooms.{IsPutAt}
use Rattle.experiment.proofs.Rooms.{put_further}
use Rattle.experiment.proofs.room.put_record_rows.Goals as goal

pub loop-done-preserved : goal.loop-done-preserved
loop-done-preserved c =
    let inv = c.loop-done.invariant in
    let e = c.put_rows-count.ensures in
    let all = c.args.records.now in
    let i = c.loop-done.done in
    let n = c.put_rows-count.result in
    record {
      done = omega (arith, e.count.1, ap length inv.left, length-drop i all, inv.done);
      left = e.left ∙ ap (drop n) inv.left ∙ drop-drop n i all;
      put = put_further (record_bytes c.args.number) all i n c.args.at c.loop-done.end c.in_ok-end.end c.args.room.now c.loop-done.room c.put_bytes.new.room inv.put
          (subst (λ rs. IsPutAt (flat_map (record_bytes c.args.number) (take n rs)) c.loop-done.end c.loop-done.room c.put_bytes.new.room c.in_ok-end.end) inv.left (search rules));
      page = e.room.1 ∙ inv.page;
      room = c.put_bytes.ensures.room ∙ inv.room;
    }
