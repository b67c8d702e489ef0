use Rattle.std.proofs.Common.{ℕ, ◌<◌, None, IsSome, get_or}
use Rattle.shard.proofs.shard.first_vacant.Given as goal

abbrev pub invariant-loop-k : goal.invariant-loop-k
invariant-loop-k g l = (j : ℕ) → j < l.k → IsSome (get_or l.slots j None)
