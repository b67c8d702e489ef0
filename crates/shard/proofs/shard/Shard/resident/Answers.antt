use Rattle.std.proofs.Common.{◌≡◌, ◌≤◌, ◌<◌, sym, refl, ap, ◌∙◌, arith, Some, None, length}
use Rattle.std.proofs.lemmas.List.{get_or_past, get_or_read}
use Rattle.packet_store.specs.Books.{pocket_of}
use Rattle.shard.specs.Seats.{resident_at, seat}
use Rattle.shard.proofs.SlotChanges.{read_at, seat_is, vacant_seat}
use Rattle.shard.proofs.shard.Shard.resident.Goals as goal

pub returns-then-slot-len-clause-vacant : goal.returns-then-slot-len-clause-vacant
returns-then-slot-len-clause-vacant g c =
    let s = c.self.inside in
    let past : length s.slots.items ≤ c.args.slot = omega (arith, c.if-slot-len.true, c.len.ensures, s.slots.ok.0) in
    vacant_seat (pocket_of s.store) s.slots.items c.args.self.now.seats c.args.slot (ap (λ v. v.seats) c.self.view_is) (get_or_past s.slots.items c.args.slot None past)

pub returns-in_default-clause-vacant : goal.returns-in_default-clause-vacant
returns-in_default-clause-vacant g c =
    let s = c.self.inside in
    let within : c.args.slot < length s.slots.items = omega (arith, c.if-slot-len.false, c.len.ensures, s.slots.ok.0) in
    let none : resident_at s.slots.items c.args.slot ≡ None = sym (get_or_read s.slots.items c.args.slot c.index.result.now within c.index.ensures None) ∙ c.in_default.is in
    vacant_seat (pocket_of s.store) s.slots.items c.args.self.now.seats c.args.slot (ap (λ v. v.seats) c.self.view_is) none

pub returns-clause-there : goal.returns-clause-there
returns-clause-there g c =
    let s = c.self.inside in
    let r = c.in-Some.resident in
    let within : c.args.slot < length s.slots.items = omega (arith, c.if-slot-len.false, c.len.ensures, s.slots.ok.0) in
    let is : resident_at s.slots.items c.args.slot ≡ Some r = read_at s.slots.items c.args.slot c.index.result.now r within c.index.ensures (sym c.in-Some.is) in
    (seat (pocket_of s.store r.owner) r, seat_is (pocket_of s.store) s.slots.items c.args.self.now.seats c.args.slot r (ap (λ v. v.seats) c.self.view_is) is, refl, refl)
