use Rattle.std.proofs.Common.{◌≡◌, drop}
use Rattle.explain.specs.Outages.{largest_from, largest as largest_of}
use Rattle.explain.proofs.outages.largest.Given as goal

-- the largest of what is left, after what was seen so far, is that of all
abbrev pub invariant-loop-timed : goal.invariant-loop-timed
invariant-loop-timed l = largest_from l.size (drop l.timed-index l.commands) ≡ largest_of l.commands
