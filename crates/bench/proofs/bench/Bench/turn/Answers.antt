use Rattle.std.proofs.Common.{false}
use Rattle.shard.proofs.CallerLemmas.{single_settled}
use Rattle.bench.specs.Rings.{ring_seen}
use Rattle.bench.proofs.bench.Bench.turn.Goals as goal

pub returns-clause-shard : goal.returns-clause-shard
returns-clause-shard c =
    let e = c.turns.ensures.shard in
    single_settled ring_seen c.turns.result false e.0 _ _ e.4
