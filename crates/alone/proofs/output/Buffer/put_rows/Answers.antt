use Rattle.std.proofs.Common.{◌+◌, ◌*◌, ◌≤◌, drop, length, length-drop, take, ap, ◌∙◌, arith, rules}
use Rattle.std.proofs.lemmas.List.{drop-drop}
use Rattle.alone.proofs.Reporting.{some_rows_puts}
use Rattle.alone.proofs.output.Buffer.put_rows.Goals as goal

pub loop-done-preserved : goal.loop-done-preserved
loop-done-preserved g c =
    let inv = c.loop-done.invariant in
    let e = c.put_rows-count.ensures in
    let all = c.args.records.now in
    let i = c.loop-done.done in
    let n = c.put_rows-count.result in
    record {
      done = omega (arith, e.count.1, ap length inv.left, length-drop i all, inv.done);
      left = e.left ∙ ap (drop n) inv.left ∙ drop-drop n i all;
      page = e.room.1 ∙ inv.page;
      puts = some_rows_puts c.args.number (g.W.Outlet.contents c.args.writer.now) (g.W.Outlet.contents c.loop-done.writer) (g.W.Outlet.contents c.put.new.writer)
          c.args.self.now c.loop-done.self c.put.new.self (take (n * 40) c.put_rows-count.new.page) all c.loop-done.reader i n inv.left e.rows inv.puts (search rules);
    }
