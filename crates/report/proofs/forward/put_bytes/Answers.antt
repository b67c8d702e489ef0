use Rattle.std.proofs.Common.{arith, ◌++◌, take, ap, ◌∙◌}
use Rattle.report.proofs.Behind.{eight_put, eight_items}
use Rattle.report.proofs.forward.put_bytes.Goals as goal

pub returns : goal.returns
returns c =
    eight_put c.args.text.now c.args.at _ _ _ _ _ _ _ _ (omega arith)
    ∙ ap (λ l. take c.args.at c.args.text.now ++ l) (eight_items c.args.bytes (omega arith))
