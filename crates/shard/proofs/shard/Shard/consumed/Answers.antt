use Rattle.std.proofs.Common.{◌∙◌}
use Rattle.shard.proofs.shard.Shard.consumed.Goals as goal

pub returns-clause-there : goal.returns-clause-there
returns-clause-there g c =
    let h = c.in_ok-resident.ensures.there in
    (h.0, h.1, c.consumed.ensures ∙ h.3)
