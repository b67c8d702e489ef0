use Rattle.std.proofs.Common.{◌≡◌, ◌++◌, drop}
use Rattle.explain.specs.Likely.{likely_from, likely as all_likely}
use Rattle.explain.proofs.likely.likely.Given as goal

-- what is told so far, and what is told from here on, is all
abbrev pub invariant-loop-number : goal.invariant-loop-number
invariant-loop-number l = l.out.items ++ likely_from l.end l.is_used l.number (drop l.number l.commands) ≡ all_likely l.commands
