use Rattle.shard.proofs.BodyFacts.{rising_applied}
use Rattle.shard.proofs.body.Body.apply.Goals as goal

pub invariant_of-self : goal.invariant_of-self
invariant_of-self g c = (
  c.self.invariant.0,
  rising_applied c.apply.result c.self.inside.experiment c.apply.new.self c.args.command.now c.self.invariant.1 c.apply.ensures.ok c.apply.ensures.free c.apply.ensures.err,
)
