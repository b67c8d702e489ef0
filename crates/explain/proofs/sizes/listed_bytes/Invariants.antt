use Rattle.std.proofs.Common.{◌≡◌, drop}
use Rattle.explain.specs.Sizes.{listed_from, nothing}
use Rattle.explain.proofs.sizes.listed_bytes.Given as goal

-- what is left, behind what was listed so far, is all
abbrev pub invariant-loop-timed : goal.invariant-loop-timed
invariant-loop-timed l = listed_from l.listed (drop l.timed-index l.commands) ≡ listed_from nothing l.commands
