use Rattle.std.proofs.Common.{◌≡◌, ◌++◌, ℕ, List, ap, ◌∙◌, codes, option_map}
use Rattle.explain.specs.ShownFindings.{row, line_rows, optional_row, before_row}
use Rattle.explain.proofs.Rows.{five_parts}
use Rattle.explain.proofs.show_findings.show_finding.Goals as goal

pub returns : goal.returns
returns c =
    let f = c.args.finding.now in
    let lines = c.put_lines.new.out.items in
    let told : c.put_row.new.out.items ≡ lines ++ row (codes "  expected: ") f.inside.expected.now = c.in_ok-put_row.ensures ∙ ap (λ (text : List ℕ). lines ++ row (codes "  expected: ") text) c.as_bytes.ensures.value in
    five_parts c.new-out.result.items lines c.put_row.new.out.items c.put_optional.new.out.items c.put_optional-2.new.out.items c.put_before.new.out.items
    (line_rows (option_map (λ l. l.now) f.line) f.inside.place) (row (codes "  expected: ") f.inside.expected.now)
    (optional_row (codes "  example: ") (option_map (λ t. t.now) f.inside.example)) (optional_row (codes "  hint: ") (option_map (λ t. t.now) f.inside.hint)) (before_row f.before)
    c.new-out.ensures.items c.in_ok-put_lines.ensures told c.in_ok-put_optional.ensures c.in_ok-put_optional-2.ensures c.in_ok-put_before.ensures
