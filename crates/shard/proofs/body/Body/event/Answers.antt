use Rattle.std.proofs.Common.{◌≡◌, ◌≤◌, ◌++◌, IsSome, length, take, sym, ap, ◌∙◌, subst}
use Rattle.packet_store.specs.Own.{own_pocket}
use Rattle.experiment.specs.Kept.{KeptExperiment}
use Rattle.experiment.specs.Moves.{Makes}
use Rattle.shard.specs.Bodies.{Moved, behind}
use Rattle.shard.specs.Kept.{IsGoing}
use Rattle.shard.proofs.BodyFacts.{Stepped, stepped, told_more, short_more, moved_over, with_spare, makes_spared}
use Rattle.shard.proofs.body.Body.event.Goals as goal

pub publish-self-inside-requires-clause-told : goal.publish-self-inside-requires-clause-told
publish-self-inside-requires-clause-told g c =
    let b = c.self.inside in
    let rs = g.M.Mail.kept b.mail in
    let p = own_pocket c.args.shelf.now in
    let q = own_pocket c.event-event.new.shelf in
    let e : KeptExperiment = c.event-event.new.self in
    let was = c.event-event.ensures in
    let going : IsGoing g.M.Mail.seen p (behind rs b.experiment) b.published b.mail =
    subst (λ (x : Moved _). IsGoing g.M.Mail.seen p x.experiment x.published x.mail) (sym c.self.view_is) c.requires.going in
    let next : IsSome b.experiment.next = subst (λ (x : Moved _). IsSome x.experiment.next) (sym c.self.view_is) c.requires.next in
    let s : Stepped rs c.event-event.result p q b.experiment e =
    stepped c.records_grow.ensures c.records_are_not_read.ensures g.M.Mail.seen rs c.event-event.result p q b.experiment e b.published b.mail going next was.makes
    (was.after rs) was.spec was.consumed in
    told_more (g.M.Mail.seen b.mail).letters (rs ++ b.experiment.net.log.records) (rs ++ e.net.log.records) b.published going.kept.told going.kept.short s.grows
    ∙ ap (λ l. take b.published (rs ++ l)) (sym c.records.ensures)

pub publish-self-inside-requires-clause-short : goal.publish-self-inside-requires-clause-short
publish-self-inside-requires-clause-short g c =
    let b = c.self.inside in
    let rs = g.M.Mail.kept b.mail in
    let p = own_pocket c.args.shelf.now in
    let q = own_pocket c.event-event.new.shelf in
    let e : KeptExperiment = c.event-event.new.self in
    let was = c.event-event.ensures in
    let going : IsGoing g.M.Mail.seen p (behind rs b.experiment) b.published b.mail =
    subst (λ (x : Moved _). IsGoing g.M.Mail.seen p x.experiment x.published x.mail) (sym c.self.view_is) c.requires.going in
    let next : IsSome b.experiment.next = subst (λ (x : Moved _). IsSome x.experiment.next) (sym c.self.view_is) c.requires.next in
    let s : Stepped rs c.event-event.result p q b.experiment e =
    stepped c.records_grow.ensures c.records_are_not_read.ensures g.M.Mail.seen rs c.event-event.result p q b.experiment e b.published b.mail going next was.makes
    (was.after rs) was.spec was.consumed in
    subst (λ l. b.published ≤ length (rs ++ l)) (sym c.records.ensures)
    (short_more (rs ++ b.experiment.net.log.records) (rs ++ e.net.log.records) b.published going.kept.short s.grows)

pub returns-then-ne-clause-makes : goal.returns-then-ne-clause-makes
returns-then-ne-clause-makes g c =
    let b = c.self.inside in
    let rs = g.M.Mail.kept b.mail in
    let p = own_pocket c.args.shelf.now in
    let q = own_pocket c.event-event.new.shelf in
    let e : KeptExperiment = c.event-event.new.self in
    let was = c.event-event.ensures in
    let going : IsGoing g.M.Mail.seen p (behind rs b.experiment) b.published b.mail =
    subst (λ (x : Moved _). IsGoing g.M.Mail.seen p x.experiment x.published x.mail) (sym c.self.view_is) c.requires.going in
    let next : IsSome b.experiment.next = subst (λ (x : Moved _). IsSome x.experiment.next) (sym c.self.view_is) c.requires.next in
    let s : Stepped rs c.event-event.result p q b.experiment e =
    stepped c.records_grow.ensures c.records_are_not_read.ensures g.M.Mail.seen rs c.event-event.result p q b.experiment e b.published b.mail going next was.makes
    (was.after rs) was.spec was.consumed in
    let f : KeptExperiment = c.keep.new.experiment in
    let qs = g.M.Mail.kept c.keep.new.mail in
    let over : behind qs f ≡ with_spare f.net.log.spare (behind rs e) =
    moved_over rs qs e f c.keep.ensures.rest (c.keep.ensures.records ∙ ap (λ l. l ++ e.net.log.records) c.publish-self-inside.ensures.kept) in
    subst (λ (x : Moved _). Makes c.event-event.result p x.experiment q (behind qs f)) c.self.view_is
    (subst (λ (x : KeptExperiment). Makes c.event-event.result p (behind rs b.experiment) q x) (sym over)
    (makes_spared f.net.log.spare c.event-event.result p q (behind rs b.experiment) (behind rs e) next going.going s.makes))

pub returns-else-records-ge-BATCH-clause-makes : goal.returns-else-records-ge-BATCH-clause-makes
returns-else-records-ge-BATCH-clause-makes g c =
    let b = c.self.inside in
    let rs = g.M.Mail.kept b.mail in
    let p = own_pocket c.args.shelf.now in
    let q = own_pocket c.event-event.new.shelf in
    let e : KeptExperiment = c.event-event.new.self in
    let was = c.event-event.ensures in
    let going : IsGoing g.M.Mail.seen p (behind rs b.experiment) b.published b.mail =
    subst (λ (x : Moved _). IsGoing g.M.Mail.seen p x.experiment x.published x.mail) (sym c.self.view_is) c.requires.going in
    let next : IsSome b.experiment.next = subst (λ (x : Moved _). IsSome x.experiment.next) (sym c.self.view_is) c.requires.next in
    let s : Stepped rs c.event-event.result p q b.experiment e =
    stepped c.records_grow.ensures c.records_are_not_read.ensures g.M.Mail.seen rs c.event-event.result p q b.experiment e b.published b.mail going next was.makes
    (was.after rs) was.spec was.consumed in
    subst (λ (x : Moved _). Makes c.event-event.result p x.experiment q (behind (g.M.Mail.kept c.publish-self-inside.new.mail) e)) c.self.view_is
    (subst (λ l. Makes c.event-event.result p (behind rs b.experiment) q (behind l e)) (sym c.publish-self-inside.ensures.kept) s.makes)
