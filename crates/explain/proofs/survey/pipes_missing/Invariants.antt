use Rattle.std.proofs.Common.{◌≡◌, ◌++◌, drop}
use Rattle.explain.specs.Survey.{pipes_missing_from, pipes_missing as all_missing}
use Rattle.explain.proofs.survey.pipes_missing.Given as goal

-- what is told so far, and what is told from here on, is all
abbrev pub invariant-loop-number : goal.invariant-loop-number
invariant-loop-number l = l.out.items ++ pipes_missing_from l.commands l.number (drop l.number l.commands) ≡ all_missing l.commands
