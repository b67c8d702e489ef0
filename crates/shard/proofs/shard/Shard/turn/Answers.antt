use Rattle.std.proofs.Common.{false}
use Rattle.shard.proofs.CallerLemmas.{single_settled}
use Rattle.shard.proofs.shard.Shard.turn.Goals as goal

pub returns : goal.returns
returns g c =
    let e = c.turns.ensures in
    single_settled g.M.Mail.seen c.turns.result false e.0 c.args.self.now c.turns.new.self e.4
