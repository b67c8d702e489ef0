use Rattle.std.proofs.Common.{sym, ap, ◌∙◌, subst}
use Rattle.packet_store.specs.Pocket.{Pocket}
use Rattle.shard.specs.Kept.{stand_of, IsGoing}
use Rattle.shard.proofs.resident.Resident.come_back.Goals as goal

pub invariant_of-result : goal.invariant_of-result
invariant_of-result g c =
    let b = c.parcel.inside.body.value in
    subst (λ (p : Pocket). IsGoing g.M.Mail.seen p b.experiment b.published b.mail) (sym c.in-Err.ensures.back) c.parcel.invariant

pub returns-in-Err-clause-back : goal.returns-in-Err-clause-back
returns-in-Err-clause-back g c =
    let b = c.parcel.inside.body.value in
    ap (λ (p : Pocket). stand_of p b.name b.experiment b.published b.mail) c.in-Err.ensures.back ∙ c.parcel.view_is
