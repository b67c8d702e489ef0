use Rattle.std.proofs.Common.{◌++◌, sym, ◌∙◌, arith}
use Rattle.report.specs.Lines.{line_of}
use Rattle.report.proofs.Taken.{flat_map_one, read_one}
use Rattle.report.proofs.runs.put_lines.Goals as goal

pub loop-end-preserved : goal.loop-end-preserved
loop-end-preserved g c =
    let inv = c.loop-end.invariant in
    let e = c.in-Some.ensures.some in
    let all = g.S.Source.list c.args.source.now in
    let is = sym inv.left ∙ e.1 in
    let one = read_one all (g.S.Source.list c.put.new.self) c.loop-end.count e.0 is in
    record {
      count = one.0;
      left = one.1;
      page = omega (arith, e.3);
      room = omega (arith, e.3, inv.room);
      items = e.4
          ∙ (λ i. inv.items i ++ line_of e.0)
          ∙ flat_map_one line_of all (g.S.Source.list c.put.new.self) c.loop-end.count e.0 is;
    }
