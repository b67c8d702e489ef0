use Rattle.std.proofs.Common.{◌++◌, take, refl, sym, ap, ◌∙◌, arith, rules}
use Rattle.report.specs.Rows.{record_bytes}
use Rattle.report.proofs.Taken.{flat_map_one, read_one}
use Rattle.report.proofs.rows.put_rows.Goals as goal

pub loop-done-preserved : goal.loop-done-preserved
loop-done-preserved c =
    let inv = c.loop-done.invariant in
    let e = c.if-put_row.ensures.written refl in
    let all = c.args.records.now in
    let k = c.loop-done.done in
    let is = sym inv.left ∙ e.1 in
    let one = read_one all c.put_row.new.self k e.0 is in
    record {
      few = omega (arith, c.loop-done-test.true);
      inside = one.0;
      left = one.1;
      room = search rules;
      same = search rules;
      rows = ap (λ n. take n c.put_row.new.page) (omega arith)
          ∙ e.2
          ∙ (λ i. inv.rows i ++ record_bytes c.args.experiment e.0)
          ∙ flat_map_one (record_bytes c.args.experiment) all c.put_row.new.self k e.0 is;
    }
