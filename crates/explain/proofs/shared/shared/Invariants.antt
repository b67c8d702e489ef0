use Rattle.std.proofs.Common.{◌≡◌, ◌≤◌, ◌++◌, length, drop}
use Rattle.explain.specs.Shared.{shared_from, shared as all_shared}
use Rattle.explain.proofs.shared.shared.Given as goal

-- what is told so far, and what is told from here on, is all
abbrev pub invariant-loop-number : goal.invariant-loop-number
invariant-loop-number l = record {
  within : l.taken ≤ length l.commands;
  same : l.out.items ++ shared_from l.commands l.number (record { book = l.ahead; left = drop l.taken l.commands }) (drop l.number l.commands) ≡ all_shared l.commands;
}
