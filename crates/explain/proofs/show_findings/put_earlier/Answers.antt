use Rattle.std.proofs.Common.{codes, decimal}
use Rattle.explain.specs.ShownFindings.{row}
use Rattle.explain.proofs.Rows.{three_parts}
use Rattle.explain.proofs.show_findings.put_earlier.Goals as goal

pub returns : goal.returns
returns c =
    let e = c.args.earlier in
    three_parts c.args.out.now.items c.extend_from_slice.new.self.items c.put_number.new.out.items c.put_row.new.out.items
    (codes "  before: line ") (decimal e.number) (row (codes ": ") e.line.now)
    c.in_ok-extend_from_slice.ensures.items c.in_ok-put_number.ensures c.in_ok-put_row.ensures
