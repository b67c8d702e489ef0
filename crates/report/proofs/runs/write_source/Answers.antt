use Rattle.std.proofs.Common.{◌+◌, ◌++◌, drop, length, length-drop, take, ap, ◌∙◌, arith}
use Rattle.std.specs.List.{flat_map}
use Rattle.std.proofs.lemmas.List.{drop-drop}
use Rattle.report.specs.Lines.{line_of}
use Rattle.report.proofs.Taken.{flat_map_further}
use Rattle.report.proofs.runs.write_source.Goals as goal

pub loop-count-preserved : goal.loop-count-preserved
loop-count-preserved g c =
    let all = g.S.Source.list c.args.source.now in
    let inv = c.loop-count.invariant in
    let d = inv.items.0 in
    let n = c.in_ok-count.count in
    let e = c.in_ok-count.ensures in
    record {
      items = (
        d + n,
        omega (arith, e.count, ap length inv.items.2, length-drop d all, inv.items.1),
        e.left ∙ ap (drop n) inv.items.2 ∙ drop-drop n d all,
        e.ok
            ∙ (λ i. inv.items.3 i ++ flat_map line_of (take n (inv.items.2 i)))
            ∙ flat_map_further line_of c.args.out.now.items all d n,
        omega (arith, e.room, inv.items.4),
      );
      capacity = omega (arith, e.capacity, inv.capacity);
    }
