use Rattle.std.proofs.Common.{◌≡◌, take, subst}
use Rattle.shard.specs.Stand.{Final}
use Rattle.shard.proofs.dossier.Dossier.reveal_invariant.Goals as goal

pub returns-clause-told : goal.returns-clause-told
returns-clause-told g c =
    let d = c.self.inside in
    (d.published, subst (λ (x : Final _). (g.M.Mail.seen x.mail).letters ≡ take d.published x.records) c.self.view_is c.self.invariant.told)
