use Rattle.std.proofs.Common.{◌≡◌, ◌++◌, drop}
use Rattle.explain.specs.Pipes.{loses_all_from, loses_all as all_lost}
use Rattle.explain.proofs.pipes.loses_all.Given as goal

-- what is told so far, and what is told from here on, is all
abbrev pub invariant-loop-number : goal.invariant-loop-number
invariant-loop-number l = l.out.items ++ loses_all_from l.commands l.number (drop l.number l.commands) ≡ all_lost l.commands
