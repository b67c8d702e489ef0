use Rattle.std.proofs.Common.{◌≡◌, ◌≤◌, ◌<◌, refl, sym, ap, ◌∙◌, arith, subst, Some, None, length}
use Rattle.std.proofs.lemmas.List.{get_or_past, get_or_read}
use Rattle.packet_store.specs.Books.{pocket_of}
use Rattle.shard.specs.Mails.{MailBook, mail_seen}
use Rattle.shard.specs.Posts.{with_command}
use Rattle.shard.specs.Stand.{Seating}
use Rattle.shard.specs.Seats.{resident_at, seat, seats_of, IsShard}
use Rattle.shard.proofs.SlotChanges.{read_at, seat_is, vacant_seat}
use Rattle.shard.proofs.PostFacts.{HasMail, mail_changed, mail_seating, written_same}
use Rattle.shard.proofs.posts.Shard+A+ListMail.put.Goals as goal

pub returns-then-slot-len-clause-back : goal.returns-then-slot-len-clause-back
returns-then-slot-len-clause-back g c =
    let s = c.self.inside in
    let past : length s.slots.items ≤ c.args.slot = omega (arith, c.if-slot-len.true, c.len.ensures, s.slots.ok.0) in
    (refl, vacant_seat (pocket_of s.store) s.slots.items c.args.self.now.seats c.args.slot (ap (λ v. v.seats) c.self.view_is) (get_or_past s.slots.items c.args.slot None past))

pub returns-in_default-clause-back : goal.returns-in_default-clause-back
returns-in_default-clause-back g c =
    let s = c.self.inside in
    let within : c.args.slot < length s.slots.items = omega (arith, c.if-slot-len.false, c.len.ensures, s.slots.ok.0) in
    let none : resident_at s.slots.items c.args.slot ≡ None = sym (get_or_read s.slots.items c.args.slot c.index_mut.result.now within c.index_mut.ensures.value None) ∙ c.in_default.is in
    (refl, vacant_seat (pocket_of s.store) s.slots.items c.args.self.now.seats c.args.slot (ap (λ v. v.seats) c.self.view_is) none)

pub invariant_of-self-in-Ok : goal.invariant_of-self-in-Ok
invariant_of-self-in-Ok g c =
    let s = c.self.inside in
    let r = c.in-Some.resident in
    let t = c.put.new.self in
    let within : c.args.slot < length s.slots.items = omega (arith, c.if-slot-len.false, c.len.ensures, s.slots.ok.0) in
    let is : resident_at s.slots.items c.args.slot ≡ Some r = read_at s.slots.items c.args.slot c.index_mut.result.now r within c.index_mut.ensures.value (sym c.in-Some.is) in
    let m = with_command r.mail c.args.timed in
    let h : HasMail mail_seen s.slots.items c.args.slot r t m = record { is = is; within = omega (arith, within, c.self.invariant.long); same = c.in-Ok.ensures.ok; given_is = refl; letters_is = refl } in
    (mail_changed mail_seen (pocket_of s.store) (g.A.Agenda.entries s.agenda) (g.A.Agenda.time s.agenda) s.slots.items c.args.slot r t m c.self.invariant h).shard

pub returns-in-Ok-clause-ok : goal.returns-in-Ok-clause-ok
returns-in-Ok-clause-ok g c =
    let s = c.self.inside in
    let r = c.in-Some.resident in
    let t = c.put.new.self in
    let within : c.args.slot < length s.slots.items = omega (arith, c.if-slot-len.false, c.len.ensures, s.slots.ok.0) in
    let is : resident_at s.slots.items c.args.slot ≡ Some r = read_at s.slots.items c.args.slot c.index_mut.result.now r within c.index_mut.ensures.value (sym c.in-Some.is) in
    let m = with_command r.mail c.args.timed in
    let h : HasMail mail_seen s.slots.items c.args.slot r t m = record { is = is; within = omega (arith, within, c.self.invariant.long); same = c.in-Ok.ensures.ok; given_is = refl; letters_is = refl } in
    (seat (pocket_of s.store r.owner) r, c.in-Ok.ensures.room, mail_seating mail_seen (pocket_of s.store) (g.A.Agenda.entries s.agenda) (g.A.Agenda.time s.agenda) s.slots.items c.args.slot r t m c.args.self.now c.self.invariant h c.self.view_is)

pub invariant_of-self-in-Err : goal.invariant_of-self-in-Err
invariant_of-self-in-Err g c =
    let s = c.self.inside in
    let r = c.in-Some.resident in
    let t = c.put.new.self in
    let within : c.args.slot < length s.slots.items = omega (arith, c.if-slot-len.false, c.len.ensures, s.slots.ok.0) in
    let is : resident_at s.slots.items c.args.slot ≡ Some r = read_at s.slots.items c.args.slot c.index_mut.result.now r within c.index_mut.ensures.value (sym c.in-Some.is) in
    subst (λ l. IsShard mail_seen (pocket_of s.store) (g.A.Agenda.entries s.agenda) (g.A.Agenda.time s.agenda) l) (sym (written_same s.slots.items c.args.slot r t is c.in-Err.ensures.err)) c.self.invariant

pub returns-in-Err-clause-back : goal.returns-in-Err-clause-back
returns-in-Err-clause-back g c =
    let s = c.self.inside in
    let r = c.in-Some.resident in
    let t = c.put.new.self in
    let within : c.args.slot < length s.slots.items = omega (arith, c.if-slot-len.false, c.len.ensures, s.slots.ok.0) in
    let is : resident_at s.slots.items c.args.slot ≡ Some r = read_at s.slots.items c.args.slot c.index_mut.result.now r within c.index_mut.ensures.value (sym c.in-Some.is) in
    (c.in-Err.ensures.back, (seat (pocket_of s.store r.owner) r, seat_is (pocket_of s.store) s.slots.items c.args.self.now.seats c.args.slot r (ap (λ v. v.seats) c.self.view_is) is, c.in-Err.ensures.full))

pub returns-in-Err-clause-err : goal.returns-in-Err-clause-err
returns-in-Err-clause-err g c =
    let s = c.self.inside in
    let r = c.in-Some.resident in
    let t = c.put.new.self in
    let within : c.args.slot < length s.slots.items = omega (arith, c.if-slot-len.false, c.len.ensures, s.slots.ok.0) in
    let is : resident_at s.slots.items c.args.slot ≡ Some r = read_at s.slots.items c.args.slot c.index_mut.result.now r within c.index_mut.ensures.value (sym c.in-Some.is) in
    ap (λ l. let v : Seating MailBook = record { seats = seats_of (pocket_of s.store) l; clock = g.A.Agenda.time s.agenda } in v) (written_same s.slots.items c.args.slot r t is c.in-Err.ensures.err) ∙ c.self.view_is
