use Rattle.shard.proofs.ManyTurns.{many_are_single}
use Rattle.shard.proofs.many_turns.many_turns_are_turns.Goals as goal

pub returns : goal.returns
returns g c = many_are_single g.M.Mail.seen
