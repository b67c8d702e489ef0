use Rattle.std.proofs.Common.{◌<◌, ◌∙◌, arith}
use Rattle.std.proofs.lemmas.List.{length-set, drop-set-lt}
use Rattle.due_index.proofs.Trees.{mended}
use Rattle.due_index.proofs.tree.mend.Goals as goal

pub loop-at-preserved : goal.loop-at-preserved
loop-at-preserved c =
    let xs = c.loop-at.nodes in
    let k = c.loop-at.at in
    let v = c.lesser_below-least.result in
    let kept = c.loop-at.invariant in
    let low : 0 < k = omega arith in
    record {
      inside = omega (arith, kept.inside, length-set xs k v);
      met = mended xs k v kept.met c.lesser_below-least.ensures (omega (arith, kept.inside)) low;
      long = length-set xs k v ∙ kept.long;
      leaves = λ half even. drop-set-lt half xs k v (omega (arith, kept.inside, kept.long, even)) ∙ kept.leaves half even;
    }
