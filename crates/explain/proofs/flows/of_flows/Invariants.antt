use Rattle.std.proofs.Common.{◌≡◌, ◌++◌, drop}
use Rattle.explain.specs.Flows.{of_flows as all_flows}
use Rattle.explain.proofs.flows.of_flows.Given as goal

-- what is told so far, and what is told from here on, is all
abbrev pub invariant-loop-watch : goal.invariant-loop-watch
invariant-loop-watch l = l.out.items ++ all_flows l.is_spent (drop l.watch-index l.watches) ≡ all_flows l.is_spent l.watches
