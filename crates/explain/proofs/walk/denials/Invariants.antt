use Rattle.std.proofs.Common.{◌≡◌, ◌≤◌, ◌++◌, length, drop}
use Rattle.explain.specs.Walk.{denials_from, denials as all_denials}
use Rattle.explain.proofs.walk.denials.Given as goal

-- what is told so far, and what is told from here on, is all
abbrev pub invariant-loop-number : goal.invariant-loop-number
invariant-loop-number l = record {
  within : l.taken ≤ length l.commands;
  same : l.out.items ++ denials_from l.flows l.number l.rules (record { book = l.ahead; left = drop l.taken l.commands }) (drop l.number l.commands) ≡ all_denials l.flows l.commands;
}
