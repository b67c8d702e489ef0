use Rattle.std.proofs.Common.{IsSome, sym, ap, ◌∙◌, subst, refl}
use Rattle.packet_store.specs.Own.{own_pocket}
use Rattle.experiment.specs.Moves.{Makes}
use Rattle.shard.specs.Seen.{IsToldMore}
use Rattle.shard.specs.Bodies.{Moved, Residence as Resident}
use Rattle.shard.specs.Kept.{IsGoing}
use Rattle.shard.specs.Steps.{Advances}
use Rattle.shard.proofs.RunFacts.{advanced}
use Rattle.shard.proofs.resident.Resident.advance.Goals as goal

pub returns-clause-advances : goal.returns-clause-advances
returns-clause-advances g c =
    let s = c.self.inside in
    let v = s.body.value in
    let n = c.event.new.self in
    let a = c.event.result in
    let p = own_pocket c.args.shelf.now in
    let q = own_pocket c.event.new.shelf in
    let is = c.event.ensures in
    let was = c.deref_mut.ensures.value in
    let old : Resident _ = record { name = v.name; owner = s.owner; experiment = v.experiment; mail = v.mail; published = v.published; offset = s.offset } in
    let new : Resident _ = record { name = n.name; owner = s.owner; experiment = n.experiment; mail = n.mail; published = n.published; offset = s.offset } in
    subst (λ (r : Resident _). Advances g.M.Mail.seen a (own_pocket c.args.shelf.now) r (own_pocket c.event.new.shelf) new) c.self.view_is
    (advanced g.M.Mail.seen a p q old new
    (subst (λ (r : Resident _). IsGoing g.M.Mail.seen (own_pocket c.args.shelf.now) r.experiment r.published r.mail) (sym c.self.view_is) c.requires.going)
    (subst (λ (r : Resident _). IsSome r.experiment.next) (sym c.self.view_is) c.requires.next)
    is.kept
    (subst (λ (b : Moved _). Makes a p b.experiment q n.experiment) was is.makes)
    (record {
      name = is.name ∙ ap (λ (b : Moved _). b.name) was;
      owner = refl;
      spec = is.spec ∙ ap (λ (b : Moved _). b.experiment.spec) was;
      consumed = is.consumed ∙ ap (λ (b : Moved _). b.experiment.consumed) was;
      mail = subst (λ (b : Moved _). IsToldMore g.M.Mail.seen b.mail n.mail) was is.mail;
      published = is.published;
    }))
