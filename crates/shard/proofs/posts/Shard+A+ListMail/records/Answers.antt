use Rattle.std.proofs.Common.{◌∙◌}
use Rattle.shard.proofs.posts.Shard+A+ListMail.records.Goals as goal

pub returns-clause-there : goal.returns-clause-there
returns-clause-there g c =
    let h = c.in_ok-resident.ensures.there in
    (h.0, h.1, c.records.ensures ∙ h.2)
