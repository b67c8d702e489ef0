use Rattle.std.proofs.Common.{◌<◌, ℕ, take}
use Rattle.bench.specs.Audits.{NowhereAt}
use Rattle.bench.proofs.closing.greatest_name.Given as goal

abbrev pub invariant-loop-c : goal.invariant-loop-c
invariant-loop-c l = (x : ℕ) → l.most < x → NowhereAt x (take l.c-index l.closings)
