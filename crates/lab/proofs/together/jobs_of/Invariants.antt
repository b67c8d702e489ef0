use Rattle.std.proofs.Common.{◌≤◌, vec_len}
use Rattle.lab.proofs.together.jobs_of.Given as goal

abbrev pub invariant-loop-bench : goal.invariant-loop-bench
invariant-loop-bench l = vec_len l.benches ≤ 16

abbrev pub decreases-loop-bench : goal.decreases-loop-bench
decreases-loop-bench l = vec_len l.benches
