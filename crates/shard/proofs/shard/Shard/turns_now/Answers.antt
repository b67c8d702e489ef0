use Rattle.std.proofs.Common.{◌≡◌, set, Some, None, refl, sym, ap, ◌∙◌, arith, subst}
use Rattle.std.specs.Prelude.{is_some}
use Rattle.packet_store.specs.Books.{pocket_of}
use Rattle.shard.specs.Stand.{Seating, seat_at, Final}
use Rattle.shard.specs.Seats.{standing, seat, seat_of, seats_of}
use Rattle.shard.specs.Turns.{AreTurns, LeavesOff}
use Rattle.shard.proofs.CallerLemmas.{turns_name}
use Rattle.shard.proofs.SlotChanges.{seat_is, all_parked}
use Rattle.shard.proofs.FirstFacts.{first}
use Rattle.shard.proofs.RunFacts.{ran_on, entry_if_next, heard_ran, said_left}
use Rattle.shard.proofs.TurnFacts.{ended, ran}
use Rattle.shard.proofs.TurnsNow.{inside, found, called, ending, taken_out}
use Rattle.shard.proofs.shard.Shard.turns_now.Goals as goal

pub returns-in_default : goal.returns-in_default
returns-in_default g c =
    let s = c.self.inside in
    let e = c.in_default.ensures in (
      0,
      0,
      refl,
      tt,
      (
        refl,
        (λ i. record { seats = seats_of (pocket_of s.store) s.slots.items; clock = e.stays i }) ∙ c.self.view_is,
        λ slot x h. all_parked g.M.Mail.seen (pocket_of s.store) (g.A.Agenda.entries s.agenda) (g.A.Agenda.time s.agenda) s.slots.items c.self.invariant e.none slot x
            (subst (λ (l : Seating _). seat_at l.seats slot ≡ Some x) (sym c.self.view_is) h),
      ),
    )

pub index_mut-requires : goal.index_mut-requires
index_mut-requires g c =
    let e = c.in-Some.entry in
    omega (arith, inside e.owner e.source e.due c.self.invariant c.in-Some.ensures.was, c.self.inside.slots.ok.0)

pub run-event-requires : goal.run-event-requires
run-event-requires g c =
    let e = c.in-Some.entry in
    let was = c.in-Some.ensures in
    let f = found e.owner e.source e.due _ _ _ c.in-Some-index_mut.resident _ c.self.invariant c.self.view_is c.requires.early was.was (was.entries e.owner) was.time was.rises c.index_mut.ensures.value (sym c.in-Some-index_mut.is) in
    record { least = f.least }

pub invariant_of-self-then-eq : goal.invariant_of-self-then-eq
invariant_of-self-then-eq g c =
    let s = c.self.inside in
    let e = c.in-Some.entry in
    let r = c.in-Some-index_mut.resident in
    let was = c.in-Some.ensures in
    let f = found e.owner e.source e.due _ _ _ r _ c.self.invariant c.self.view_is c.requires.early was.was (was.entries e.owner) was.time was.rises c.index_mut.ensures.value (sym c.in-Some-index_mut.is) in
    let run = c.run-event.ensures in
    let after = pocket_of c.run-event.new.store in
    let a = called e.owner r _ after _ _ _ c.self.invariant f run.time (λ o n. run.rows o n ∙ was.entries o) run.others in
    let on = ran_on g.M.Mail.seen c.run-event.result g.W.Watch.may_refuse c.args.more run.runs.0 _ (after r.owner) _ _ r c.run-event.new.self (sym c.eq.ensures ∙ c.if-eq.true) run.runs.2 in
    (ran g.M.Mail.seen (pocket_of s.store) after _ _ _ _ _ s.slots.items e.owner r c.run-event.new.self c.self.invariant a run.time on.1 on.2).shard

pub returns-then-eq : goal.returns-then-eq
returns-then-eq g c =
    let s = c.self.inside in
    let e = c.in-Some.entry in
    let r = c.in-Some-index_mut.resident in
    let t = c.run-event.new.self in
    let was = c.in-Some.ensures in
    let f = found e.owner e.source e.due _ _ _ r _ c.self.invariant c.self.view_is c.requires.early was.was (was.entries e.owner) was.time was.rises c.index_mut.ensures.value (sym c.in-Some-index_mut.is) in
    let run = c.run-event.ensures in
    let after = pocket_of c.run-event.new.store in
    let a = called e.owner r _ after _ _ _ c.self.invariant f run.time (λ o n. run.rows o n ∙ was.entries o) run.others in
    let on = ran_on g.M.Mail.seen c.run-event.result g.W.Watch.may_refuse c.args.more run.runs.0 _ (after r.owner) _ _ r t (sym c.eq.ensures ∙ c.if-eq.true) run.runs.2 in
    let h = ran g.M.Mail.seen (pocket_of s.store) after _ _ _ _ _ s.slots.items e.owner r t c.self.invariant a run.time on.1 on.2 in (
      run.runs.0,
      r.name,
      heard_ran g.M.Mail.seen g.W.Watch.hears c.run-event.result r.name run.runs.0 c.args.watch.now c.run-event.new.watch (sym c.eq.ensures ∙ c.if-eq.true) run.runs.1,
      c.name-name.ensures,
      (
        on.0.some,
        on.0.few,
        (
          e.owner,
          seat (pocket_of s.store r.owner) r,
          seat (after t.owner) t,
          subst (λ o. LeavesOff g.W.Watch.may_refuse c.args.more run.runs.0 (standing (after o) t)) (sym on.2) on.0.left_off,
          record {
            was = seat_is (pocket_of s.store) s.slots.items c.args.self.now.seats e.owner r (ap (λ (x : Seating _). x.seats) c.self.view_is) f.is;
            name_is = sym c.name-name.ensures;
            ready = f.least.ready;
            first = first g.M.Mail.seen (pocket_of s.store) (g.A.Agenda.entries s.agenda) (g.A.Agenda.time s.agenda) s.slots.items c.args.self.now.seats e r c.self.invariant (ap (λ (x : Seating _). x.seats) c.self.view_is) f.is was.was was.least;
            turns = subst (λ o. AreTurns g.M.Mail.seen run.runs.0 (standing (pocket_of s.store r.owner) r) (standing (after o) t)) (sym on.2) on.0.turns;
            entered = entry_if_next g.M.Mail.seen t.experiment.next t.offset on.3;
            others = h.seats ∙ ap (λ (x : Seating _). set x.seats e.owner (seat_of after (Some t))) c.self.view_is;
          },
        ),
      ),
    )

pub index_mut-requires-2 : goal.index_mut-requires-2
index_mut-requires-2 g c =
    let e = c.in-Some.entry in
    omega (arith, inside e.owner e.source e.due c.self.invariant c.in-Some.ensures.was, c.self.inside.slots.ok.0)

pub take_ended-requires-clause-there : goal.take_ended-requires-clause-there
take_ended-requires-clause-there g c =
    let e = c.in-Some.entry in
    let r = c.in-Some-index_mut.resident in
    let was = c.in-Some.ensures in
    let f = found e.owner e.source e.due _ _ _ r _ c.self.invariant c.self.view_is c.requires.early was.was (was.entries e.owner) was.time was.rises c.index_mut.ensures.value (sym c.in-Some-index_mut.is) in
    let runs = c.run-event.ensures.runs in
    let x = ending e.owner r c.run-event.new.self _ _ _ c.run-event.result g.W.Watch.may_refuse c.args.more runs.0 (pocket_of c.run-event.new.store) _ f c.index_mut-2.ensures.value (sym c.eq.ensures ∙ c.if-eq.false) runs.2 in
    ap is_some x.there

pub take_ended-requires-clause-kept : goal.take_ended-requires-clause-kept
take_ended-requires-clause-kept g c =
    let e = c.in-Some.entry in
    let r = c.in-Some-index_mut.resident in
    let was = c.in-Some.ensures in
    let f = found e.owner e.source e.due _ _ _ r _ c.self.invariant c.self.view_is c.requires.early was.was (was.entries e.owner) was.time was.rises c.index_mut.ensures.value (sym c.in-Some-index_mut.is) in
    let runs = c.run-event.ensures.runs in
    (ending e.owner r c.run-event.new.self _ _ _ c.run-event.result g.W.Watch.may_refuse c.args.more runs.0 (pocket_of c.run-event.new.store) _ f c.index_mut-2.ensures.value (sym c.eq.ensures ∙ c.if-eq.false) runs.2).kept

pub take_ended-requires-clause-ended : goal.take_ended-requires-clause-ended
take_ended-requires-clause-ended g c =
    let e = c.in-Some.entry in
    let r = c.in-Some-index_mut.resident in
    let was = c.in-Some.ensures in
    let f = found e.owner e.source e.due _ _ _ r _ c.self.invariant c.self.view_is c.requires.early was.was (was.entries e.owner) was.time was.rises c.index_mut.ensures.value (sym c.in-Some-index_mut.is) in
    let runs = c.run-event.ensures.runs in
    (ending e.owner r c.run-event.new.self _ _ _ c.run-event.result g.W.Watch.may_refuse c.args.more runs.0 (pocket_of c.run-event.new.store) _ f c.index_mut-2.ensures.value (sym c.eq.ensures ∙ c.if-eq.false) runs.2).ended

pub invariant_of-self-2 : goal.invariant_of-self-2
invariant_of-self-2 g c =
    let e = c.in-Some.entry in
    let r = c.in-Some-index_mut.resident in
    let t = c.run-event.new.self in
    let was = c.in-Some.ensures in
    let f = found e.owner e.source e.due _ _ _ r _ c.self.invariant c.self.view_is c.requires.early was.was (was.entries e.owner) was.time was.rises c.index_mut.ensures.value (sym c.in-Some-index_mut.is) in
    let run = c.run-event.ensures in
    let after = pocket_of c.run-event.new.store in
    let x = ending e.owner r t _ _ _ c.run-event.result g.W.Watch.may_refuse c.args.more run.runs.0 after _ f c.index_mut-2.ensures.value (sym c.eq.ensures ∙ c.if-eq.false) run.runs.2 in
    let clear = c.clear_owner.ensures in
    let a = called e.owner r _ after _ _ _ c.self.invariant f (clear.time ∙ run.time) (λ o n. clear.others o n ∙ run.rows o n ∙ was.entries o) run.others in
    let take = c.take_ended.ensures in
    (taken_out e.owner r t c.args.more run.runs.0 after _ _ _ _ _ c.take_ended.result c.self.invariant a x clear.cleared take.gone take.ends take.others).shard

pub returns : goal.returns
returns g c =
    let s = c.self.inside in
    let e = c.in-Some.entry in
    let r = c.in-Some-index_mut.resident in
    let t = c.run-event.new.self in
    let was = c.in-Some.ensures in
    let f = found e.owner e.source e.due _ _ _ r _ c.self.invariant c.self.view_is c.requires.early was.was (was.entries e.owner) was.time was.rises c.index_mut.ensures.value (sym c.in-Some-index_mut.is) in
    let run = c.run-event.ensures in
    let after = pocket_of c.run-event.new.store in
    let x = ending e.owner r t _ _ _ c.run-event.result g.W.Watch.may_refuse c.args.more run.runs.0 after _ f c.index_mut-2.ensures.value (sym c.eq.ensures ∙ c.if-eq.false) run.runs.2 in
    let clear = c.clear_owner.ensures in
    let a = called e.owner r _ after _ _ _ c.self.invariant f (clear.time ∙ run.time) (λ o n. clear.others o n ∙ run.rows o n ∙ was.entries o) run.others in
    let take = c.take_ended.ensures in
    let out = taken_out e.owner r t c.args.more run.runs.0 after _ _ _ _ _ c.take_ended.result c.self.invariant a x clear.cleared take.gone take.ends take.others in
    let left = x.left in (
      run.runs.0,
      r.name,
      said_left g.M.Mail.seen g.W.Watch.hears c.run-event.result r.name run.runs.0 c.args.watch.now c.run-event.new.watch (sym c.eq.ensures ∙ c.if-eq.false) run.runs.1,
      ap (λ (d : Final _). d.name) out.dossier.rest ∙ left.leaving.name ∙ turns_name g.M.Mail.seen run.runs.0 _ _ left.turns,
      (
        left.few,
        (
          e.owner,
          seat (pocket_of s.store r.owner) r,
          standing left.pocket left.last,
          record {
            was = seat_is (pocket_of s.store) s.slots.items c.args.self.now.seats e.owner r (ap (λ (y : Seating _). y.seats) c.self.view_is) f.is;
            ready = f.least.ready;
            first = first g.M.Mail.seen (pocket_of s.store) (g.A.Agenda.entries s.agenda) (g.A.Agenda.time s.agenda) s.slots.items c.args.self.now.seats e r c.self.invariant (ap (λ (y : Seating _). y.seats) c.self.view_is) f.is was.was was.least;
            turns = left.turns;
            end = ended g.M.Mail.seen left.pocket (after r.owner) left.ending left.last t c.take_ended.result left.leaving out.dossier;
            others = out.seats ∙ ap (λ (y : Seating _). set y.seats e.owner None) c.self.view_is;
          },
        ),
      ),
    )
