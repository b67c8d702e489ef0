use Rattle.std.proofs.Common.{◌+◌, ◌≤◌, drop, length, length-drop, ap, ◌∙◌, arith}
use Rattle.std.proofs.lemmas.List.{drop-drop}
use Rattle.alone.proofs.Reporting.{lines_puts}
use Rattle.alone.proofs.output.Buffer.put_lines.Goals as goal

pub loop-done-preserved : goal.loop-done-preserved
loop-done-preserved g c =
    let inv = c.loop-done.invariant in
    let e = c.in_ok-done.ensures in
    let all = c.args.records.now in
    let i = c.loop-done.done in
    let n = c.in_ok-done.field-0 in
    record {
      done = omega (arith, e.count.1, ap length inv.left, length-drop i all, inv.done);
      left = e.left ∙ ap (drop n) inv.left ∙ drop-drop n i all;
      puts = lines_puts (g.W.Outlet.contents c.args.writer.now) (g.W.Outlet.contents c.loop-done.writer) (g.W.Outlet.contents c.put_some.new.writer)
          c.args.self.now c.loop-done.self c.put_some.new.self all c.loop-done.reader i n inv.left inv.puts e.ok;
    }
