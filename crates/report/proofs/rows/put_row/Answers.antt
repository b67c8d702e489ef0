use Rattle.std.proofs.Common.{[], ◌++◌, take, ap, ◌∙◌}
use Rattle.std.specs.Int.{w64, to_le_bytes}
use Rattle.report.specs.Rows.{row_bytes}
use Rattle.report.proofs.Behind.{five_put}
use Rattle.report.proofs.rows.put_row.Goals as goal

pub returns : goal.returns
unfolding row_bytes
returns c =
    let le = to_le_bytes w64 in
    five_put c.args.page.now c.put_bytes.new.text c.put_bytes-2.new.text c.put_bytes-3.new.text c.put_bytes-4.new.text c.put_bytes-5.new.text
    c.to_le_bytes.result c.to_le_bytes-2.result c.to_le_bytes-3.result c.to_le_bytes-4.result c.to_le_bytes-5.result c.args.at
    c.put_bytes.ensures c.put_bytes-2.ensures c.put_bytes-3.ensures c.put_bytes-4.ensures c.put_bytes-5.ensures
    ∙ (λ i. take c.args.at c.args.page.now ++ (c.to_le_bytes.ensures i
    ++ ((c.to_le_bytes-2.ensures ∙ ap le c.joined.ensures) i
    ++ ((c.to_le_bytes-3.ensures ∙ ap le c.joined-2.ensures) i
    ++ ((c.to_le_bytes-4.ensures ∙ ap le c.joined-3.ensures) i
    ++ ((c.to_le_bytes-5.ensures ∙ ap le c.last_word-last.ensures) i ++ []))))))
