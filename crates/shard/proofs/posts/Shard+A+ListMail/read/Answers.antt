use Rattle.std.proofs.Common.{◌≡◌, ◌≤◌, ◌<◌, sym, ap, ◌∙◌, arith, Some, None, length}
use Rattle.std.proofs.lemmas.List.{get_or_past, get_or_read}
use Rattle.packet_store.specs.Books.{pocket_of}
use Rattle.shard.specs.Mails.{mail_seen}
use Rattle.shard.specs.Seats.{resident_at, seat}
use Rattle.shard.proofs.SlotChanges.{read_at, vacant_seat}
use Rattle.shard.proofs.PostFacts.{HasMail, mail_changed, mail_seating, letters-read, given-read}
use Rattle.shard.proofs.posts.Shard+A+ListMail.read.Goals as goal

pub returns-then-slot-len-clause-vacant : goal.returns-then-slot-len-clause-vacant
returns-then-slot-len-clause-vacant g c =
    let s = c.self.inside in
    let past : length s.slots.items ≤ c.args.slot = omega (arith, c.if-slot-len.true, c.len.ensures, s.slots.ok.0) in
    vacant_seat (pocket_of s.store) s.slots.items c.args.self.now.seats c.args.slot (ap (λ v. v.seats) c.self.view_is) (get_or_past s.slots.items c.args.slot None past)

pub returns-in_default-clause-vacant : goal.returns-in_default-clause-vacant
returns-in_default-clause-vacant g c =
    let s = c.self.inside in
    let within : c.args.slot < length s.slots.items = omega (arith, c.if-slot-len.false, c.len.ensures, s.slots.ok.0) in
    let none : resident_at s.slots.items c.args.slot ≡ None = sym (get_or_read s.slots.items c.args.slot c.index_mut.result.now within c.index_mut.ensures.value None) ∙ c.in_default.is in
    vacant_seat (pocket_of s.store) s.slots.items c.args.self.now.seats c.args.slot (ap (λ v. v.seats) c.self.view_is) none

pub invariant_of-self-2 : goal.invariant_of-self-2
invariant_of-self-2 g c =
    let s = c.self.inside in
    let r = c.in-Some.resident in
    let t = c.read.new.self in
    let within : c.args.slot < length s.slots.items = omega (arith, c.if-slot-len.false, c.len.ensures, s.slots.ok.0) in
    let is : resident_at s.slots.items c.args.slot ≡ Some r = read_at s.slots.items c.args.slot c.index_mut.result.now r within c.index_mut.ensures.value (sym c.in-Some.is) in
    let e = c.read.ensures in
    let h : HasMail mail_seen s.slots.items c.args.slot r t t.mail = record { is = is; within = omega (arith, within, c.self.invariant.long); same = e.same; given_is = given-read c.read.result r.mail t.mail e.reads; letters_is = letters-read c.read.result r.mail t.mail e.reads } in
    (mail_changed mail_seen (pocket_of s.store) (g.A.Agenda.entries s.agenda) (g.A.Agenda.time s.agenda) s.slots.items c.args.slot r t t.mail c.self.invariant h).shard

pub returns-clause-ok : goal.returns-clause-ok
returns-clause-ok g c =
    let s = c.self.inside in
    let r = c.in-Some.resident in
    let t = c.read.new.self in
    let within : c.args.slot < length s.slots.items = omega (arith, c.if-slot-len.false, c.len.ensures, s.slots.ok.0) in
    let is : resident_at s.slots.items c.args.slot ≡ Some r = read_at s.slots.items c.args.slot c.index_mut.result.now r within c.index_mut.ensures.value (sym c.in-Some.is) in
    let e = c.read.ensures in
    let h : HasMail mail_seen s.slots.items c.args.slot r t t.mail = record { is = is; within = omega (arith, within, c.self.invariant.long); same = e.same; given_is = given-read c.read.result r.mail t.mail e.reads; letters_is = letters-read c.read.result r.mail t.mail e.reads } in
    (seat (pocket_of s.store r.owner) r, t.mail, e.reads, mail_seating mail_seen (pocket_of s.store) (g.A.Agenda.entries s.agenda) (g.A.Agenda.time s.agenda) s.slots.items c.args.slot r t t.mail c.args.self.now c.self.invariant h c.self.view_is)
