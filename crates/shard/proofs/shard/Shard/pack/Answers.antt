use Rattle.std.proofs.Common.{◌≡◌, ℕ, ◌<◌, ◌≤◌, length, set, Option, Some, None, IsSome, sym, ap, ◌∙◌, arith, subst}
use Rattle.std.proofs.lemmas.List.{get_or_read, get_or_past}
use Rattle.packet_store.specs.Books.{pocket_of}
use Rattle.shard.specs.Bodies.{Residence as Resident}
use Rattle.shard.specs.Stand.{Seating}
use Rattle.shard.specs.Seats.{resident_at, seat, seats_of, IsShard}
use Rattle.shard.proofs.SlotChanges.{read_at, seated_at, seat_is, vacant_seat, IsAloneAt, GoesOn, leaves}
use Rattle.shard.proofs.shard.Shard.pack.Goals as goal

pub returns-then-slot-len-clause-vacant : goal.returns-then-slot-len-clause-vacant
returns-then-slot-len-clause-vacant g c = λ e.
    let s = c.self.inside in
    let past : length s.slots.items ≤ c.args.slot = omega (arith, s.slots.ok.0) in
    vacant_seat (pocket_of s.store) s.slots.items c.args.self.now.seats c.args.slot (ap (λ (x : Seating _). x.seats) c.self.view_is) (get_or_past s.slots.items c.args.slot None past)

pub returns-then-slot-len-clause-succeeds : goal.returns-then-slot-len-clause-succeeds
returns-then-slot-len-clause-succeeds g c = λ there.
    let s = c.self.inside in
    let past : length s.slots.items ≤ c.args.slot = omega (arith, s.slots.ok.0) in
    subst IsSome (vacant_seat (pocket_of s.store) s.slots.items c.args.self.now.seats c.args.slot (ap (λ (x : Seating _). x.seats) c.self.view_is) (get_or_past s.slots.items c.args.slot None past)) there

pub returns-in_default-clause-vacant : goal.returns-in_default-clause-vacant
returns-in_default-clause-vacant g c = λ e.
    let s = c.self.inside in
    let within : c.args.slot < length s.slots.items = omega (arith, s.slots.ok.0) in
    let none : resident_at s.slots.items c.args.slot ≡ None = sym (sym c.in_default.is ∙ get_or_read s.slots.items c.args.slot c.index.result.now within c.index.ensures None) in
    vacant_seat (pocket_of s.store) s.slots.items c.args.self.now.seats c.args.slot (ap (λ (x : Seating _). x.seats) c.self.view_is) none

pub returns-in_default-clause-succeeds : goal.returns-in_default-clause-succeeds
returns-in_default-clause-succeeds g c = λ there.
    let s = c.self.inside in
    let within : c.args.slot < length s.slots.items = omega (arith, s.slots.ok.0) in
    let none : resident_at s.slots.items c.args.slot ≡ None = sym (sym c.in_default.is ∙ get_or_read s.slots.items c.args.slot c.index.result.now within c.index.ensures None) in
    subst IsSome (vacant_seat (pocket_of s.store) s.slots.items c.args.self.now.seats c.args.slot (ap (λ (x : Seating _). x.seats) c.self.view_is) none) there

pub leave-requires : goal.leave-requires
leave-requires g c =
    let s = c.self.inside in
    let r = c.in-Some-replace.gone in
    let within : c.args.slot < length s.slots.items = omega (arith, s.slots.ok.0) in
    let is : resident_at s.slots.items c.args.slot ≡ Some r = read_at s.slots.items c.args.slot c.index_mut.result.now r within c.index_mut.ensures.value c.in-Some-replace.ensures.value in
    record { going = (seated_at g.M.Mail.seen (pocket_of s.store) (g.A.Agenda.entries s.agenda) (g.A.Agenda.time s.agenda) s.slots.items c.args.slot r c.self.invariant is).going }

pub invariant_of-self : goal.invariant_of-self
invariant_of-self g c =
    let s = c.self.inside in
    let r = c.in-Some-replace.gone in
    let k : ℕ = c.args.slot in
    let clock : ℕ = g.A.Agenda.time s.agenda in
    let rows = g.A.Agenda.entries s.agenda in
    let later = g.A.Agenda.entries c.clear_owner.new.self in
    let within : k < length s.slots.items = omega (arith, s.slots.ok.0) in
    let is : resident_at s.slots.items k ≡ Some r = read_at s.slots.items k c.index_mut.result.now r within c.index_mut.ensures.value c.in-Some-replace.ensures.value in
    let a : IsAloneAt (pocket_of s.store) (pocket_of c.leave.new.store) rows later s.slots.items k r = record { is = is; within = omega (arith, within, c.self.invariant.long); rows_stay = c.clear_owner.ensures.others; pockets_stay = c.leave.ensures.others } in
    let on : GoesOn clock clock = record { on = omega arith; early = c.self.invariant.early } in
    let h = leaves g.M.Mail.seen (pocket_of s.store) (pocket_of c.leave.new.store) rows later clock clock s.slots.items k r c.self.invariant on a c.clear_owner.ensures.cleared in
    subst (λ t. IsShard g.M.Mail.seen (pocket_of c.leave.new.store) later t (set s.slots.items k c.replace.new.dest)) (sym c.clear_owner.ensures.time)
    (subst (λ (o : Option (Resident _)). IsShard g.M.Mail.seen (pocket_of c.leave.new.store) later clock (set s.slots.items k o)) (sym c.replace.ensures.after) h.shard)

pub returns-clause-ok : goal.returns-clause-ok
returns-clause-ok g c =
    let s = c.self.inside in
    let r = c.in-Some-replace.gone in
    let k : ℕ = c.args.slot in
    let clock : ℕ = g.A.Agenda.time s.agenda in
    let rows = g.A.Agenda.entries s.agenda in
    let later = g.A.Agenda.entries c.clear_owner.new.self in
    let within : k < length s.slots.items = omega (arith, s.slots.ok.0) in
    let is : resident_at s.slots.items k ≡ Some r = read_at s.slots.items k c.index_mut.result.now r within c.index_mut.ensures.value c.in-Some-replace.ensures.value in
    let a : IsAloneAt (pocket_of s.store) (pocket_of c.leave.new.store) rows later s.slots.items k r = record { is = is; within = omega (arith, within, c.self.invariant.long); rows_stay = c.clear_owner.ensures.others; pockets_stay = c.leave.ensures.others } in
    let on : GoesOn clock clock = record { on = omega arith; early = c.self.invariant.early } in
    let h = leaves g.M.Mail.seen (pocket_of s.store) (pocket_of c.leave.new.store) rows later clock clock s.slots.items k r c.self.invariant on a c.clear_owner.ensures.cleared in (
      seat (pocket_of s.store r.owner) r,
      record {
        was = seat_is (pocket_of s.store) s.slots.items c.args.self.now.seats k r (ap (λ (x : Seating _). x.seats) c.self.view_is) is;
        same = c.leave.ensures.same;
        others = ap (λ (o : Option (Resident _)). seats_of (pocket_of c.leave.new.store) (set s.slots.items k o)) c.replace.ensures.after ∙ h.seats ∙ ap (λ (x : Seating _). set x.seats k None) c.self.view_is;
        clock = c.clear_owner.ensures.time ∙ ap (λ (x : Seating _). x.clock) c.self.view_is;
      },
    )
