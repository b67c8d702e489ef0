use Rattle.std.proofs.Common.{◌≡◌, ℕ, ◌+◌, ◌*◌, ◌<◌, length, drop}
use Rattle.due_index.specs.Tree.{IsTreeBut}
use Rattle.due_index.proofs.tree.mend.Given as goal

-- all is met but at one node, and the leaves are as they were
abbrev pub invariant-loop-at : goal.invariant-loop-at
invariant-loop-at l = record {
  inside : 2 * l.at + 1 < length l.nodes;
  met : IsTreeBut l.at l.nodes;
  long : length l.nodes ≡ length l.initial.nodes;
  leaves : (half : ℕ) → length l.initial.nodes ≡ 2 * half → drop half l.nodes ≡ drop half l.initial.nodes;
}

abbrev pub decreases-loop-at : goal.decreases-loop-at
decreases-loop-at l = l.at
