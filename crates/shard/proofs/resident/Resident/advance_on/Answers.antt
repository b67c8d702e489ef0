use Rattle.std.proofs.Common.{◌≡◌, ◌+◌, refl, sym, ◌∙◌, arith, subst, inl, inr}
use Rattle.packet_store.specs.Own.{own_pocket}
use Rattle.shard.specs.Seats.{standing}
use Rattle.shard.specs.Steps.{Advances}
use Rattle.shard.specs.Turns.{LeavesOff}
use Rattle.shard.proofs.RunFacts.{said_yes_more, heard_more, said_at, went_on, left, stays_after, none_left, one_more, all_heard, not_same, is_same}
use Rattle.shard.proofs.CallerLemmas.{turns_name}
use Rattle.shard.proofs.resident.Resident.advance_on.Goals.{then-not-ran-via-then-not-ran, then-not-ran-via-else-not-ran+then-not-has_next}
use Rattle.shard.proofs.resident.Resident.advance_on.Goals as goal

pub loop-made-init : goal.loop-made-init
loop-made-init g c = (c.requires.going, c.requires.next, refl, refl, refl, refl)

pub returns-then-ne-clause-runs : goal.returns-then-ne-clause-runs
returns-then-ne-clause-runs g c =
    let i = c.loop-made.invariant in
    let r = c.args.self.now in
    let l = c.loop-made.self in
    let p = own_pocket c.args.shelf.now in
    let m = own_pocket c.loop-made.shelf in
    let q = own_pocket c.advance-event.new.shelf in
    let t = c.advance-event.new.self in
    let made : Advances g.M.Mail.seen c.advance-event.result m l q t = c.advance-event.ensures.advances in
    let ends = not_same g.M.Mail.seen _ (sym c.ne.ensures ∙ c.if-ne.true) in
    (c.loop-made.made, said_at g.M.Mail.seen g.W.Watch.hears c.advance-event.result r.name c.loop-made.made c.args.watch.now c.loop-made.watch ends i.5, left g.M.Mail.seen c.advance-event.result g.W.Watch.may_refuse c.args.more c.loop-made.made p m q r l t ends (omega (arith, c.loop-made-test.true, c.from-made-end.ensures)) i.2 i.4 made)

pub returns-then-not-ran-clause-runs : goal.returns-then-not-ran-clause-runs
returns-then-not-ran-clause-runs g c =
    let i = c.loop-made.invariant in
    let r = c.args.self.now in
    let l = c.loop-made.self in
    let p = own_pocket c.args.shelf.now in
    let m = own_pocket c.loop-made.shelf in
    let q = own_pocket c.advance-event.new.shelf in
    let t = c.advance-event.new.self in
    let made : Advances g.M.Mail.seen c.advance-event.result m l q t = c.advance-event.ensures.advances in
    let on = went_on g.M.Mail.seen c.advance-event.result m q l t (is_same g.M.Mail.seen _ (sym c.ne.ensures ∙ c.if-ne.false)) made in
    let off : LeavesOff g.W.Watch.may_refuse c.args.more (c.loop-made.made + 1) (standing q t) =
    elim c.then-not-ran.branch [
      | then-not-ran-via-then-not-ran w ↦ inr (inr (c.ran.ensures.refused w.if-not-ran.true))
      | then-not-ran-via-else-not-ran+then-not-has_next w ↦ inr (inl (none_left g.M.Mail.seen t.experiment.next (sym w.has_next.ensures ∙ w.if-not-has_next.true)))
    ] in (
      c.loop-made.made + 1,
      heard_more g.M.Mail.seen g.W.Watch.hears r.name t.name c.loop-made.made c.ran.result c.args.watch.now c.loop-made.watch c.ran.new.self (on.1.name ∙ turns_name g.M.Mail.seen c.loop-made.made _ _ i.4) i.5 (subst (λ n. g.W.Watch.hears n c.ran.result c.loop-made.watch c.ran.new.self) c.name.ensures c.ran.ensures.hears),
      (stays_after g.M.Mail.seen g.W.Watch.may_refuse c.args.more c.loop-made.made p m q r l t (omega (arith, c.loop-made-test.true, c.from-made-end.ensures)) i.4 on.1 off, on.0),
    )

pub loop-made-preserved : goal.loop-made-preserved
loop-made-preserved g c =
    let i = c.loop-made.invariant in
    let r = c.args.self.now in
    let l = c.loop-made.self in
    let p = own_pocket c.args.shelf.now in
    let m = own_pocket c.loop-made.shelf in
    let q = own_pocket c.advance-event.new.shelf in
    let t = c.advance-event.new.self in
    let made : Advances g.M.Mail.seen c.advance-event.result m l q t = c.advance-event.ensures.advances in
    let on = went_on g.M.Mail.seen c.advance-event.result m q l t (is_same g.M.Mail.seen _ (sym c.ne.ensures ∙ c.if-ne.false)) made in (
      on.0,
      sym c.has_next.ensures ∙ c.if-not-has_next.false,
      c.advance-event.ensures.owner ∙ i.2,
      c.advance-event.ensures.offset ∙ i.3,
      one_more g.M.Mail.seen c.loop-made.made (standing p r) (standing m l) (standing q t) i.4 on.1,
      said_yes_more g.M.Mail.seen g.W.Watch.hears r.name t.name c.loop-made.made c.args.watch.now c.loop-made.watch c.ran.new.self (on.1.name ∙ turns_name g.M.Mail.seen c.loop-made.made _ _ i.4) i.5 (subst (λ b. g.W.Watch.hears t.name b c.loop-made.watch c.ran.new.self) c.if-not-ran.false (subst (λ n. g.W.Watch.hears n c.ran.result c.loop-made.watch c.ran.new.self) c.name.ensures c.ran.ensures.hears)),
    )

pub returns-clause-runs : goal.returns-clause-runs
returns-clause-runs g c =
    let i = c.loop-made.invariant in
    let r = c.args.self.now in
    let l = c.loop-made.self in
    let all : c.loop-made.made ≡ c.args.more + 1 = omega (arith, c.loop-made-test.false, c.loop-made.auto.made-end, c.from-made-end.ensures) in (
      c.loop-made.made,
      all_heard g.M.Mail.seen g.W.Watch.hears r.name c.loop-made.made c.args.watch.now c.loop-made.watch (omega (arith, all)) i.5,
      (record { some = omega (arith, all); few = omega (arith, all); left_off = inl all; turns = i.4 }, i.0),
    )
