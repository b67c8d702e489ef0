use Rattle.std.proofs.Common.{drop, set, ap, ◌∙◌}
use Rattle.std.proofs.lemmas.List.{length-set, drop-set-add}
use Rattle.due_index.proofs.tree.put.Goals as goal

pub returns-clause-leaves : goal.returns-clause-leaves
returns-clause-leaves c = λ half place even leaf.
    let xs = c.args.nodes.now in
    let due = c.args.due in
    c.mend.ensures.leaves half (length-set xs c.args.leaf due ∙ even)
    ∙ ap (λ i. drop half (set xs i due)) leaf ∙ drop-set-add half xs place due
