use Rattle.std.proofs.Common.{◌≡◌, ◌≤◌, ◌<◌, sym, ap, ◌∙◌, arith, subst, Option, Some, None, length}
use Rattle.std.specs.Prelude.{unwrap_or, ◌==◌, IsTrue, IsFalse}
use Rattle.std.proofs.lemmas.List.{get_or_read, get_or_past}
use Rattle.packet_store.specs.Books.{pocket_of}
use Rattle.shard.specs.Stand.{Seat, Seating, seat_at}
use Rattle.shard.specs.Seats.{resident_at, seat}
use Rattle.shard.proofs.SlotChanges.{read_at, seat_is, vacant_seat}
use Rattle.shard.proofs.SeatFacts.{is_equal, is_other}
use Rattle.shard.proofs.shard.Shard.is_named.Goals as goal

pub returns-then-slot-len-clause-no : goal.returns-then-slot-len-clause-no
returns-then-slot-len-clause-no g c = λ f x h n.
    let s = c.self.inside in
    let past : length s.slots.items ≤ c.args.slot = omega (arith, s.slots.ok.0) in
    let none : seat_at c.args.self.now.seats c.args.slot ≡ None = vacant_seat (pocket_of s.store) s.slots.items c.args.self.now.seats c.args.slot (ap (λ (v : Seating _). v.seats) c.self.view_is) (get_or_past s.slots.items c.args.slot None past) in
    absurd (cc)

pub returns-in_default-clause-no : goal.returns-in_default-clause-no
returns-in_default-clause-no g c = λ f x h n.
    let s = c.self.inside in
    let within : c.args.slot < length s.slots.items = omega (arith, s.slots.ok.0) in
    let gone : resident_at s.slots.items c.args.slot ≡ None = sym (sym c.in_default.is ∙ get_or_read s.slots.items c.args.slot c.index.result.now within c.index.ensures None) in
    let none : seat_at c.args.self.now.seats c.args.slot ≡ None = vacant_seat (pocket_of s.store) s.slots.items c.args.self.now.seats c.args.slot (ap (λ (v : Seating _). v.seats) c.self.view_is) gone in
    absurd (cc)

pub returns-clause-yes : goal.returns-clause-yes
returns-clause-yes g c = λ h.
    let s = c.self.inside in
    let r = c.in-Some.resident in
    let within : c.args.slot < length s.slots.items = omega (arith, s.slots.ok.0) in
    let is : resident_at s.slots.items c.args.slot ≡ Some r = read_at s.slots.items c.args.slot c.index.result.now r within c.index.ensures (sym c.in-Some.is) in
    (seat (pocket_of s.store r.owner) r, seat_is (pocket_of s.store) s.slots.items c.args.self.now.seats c.args.slot r (ap (λ (v : Seating _). v.seats) c.self.view_is) is, is_equal r.name c.args.name (subst (λ n. IsTrue (n == c.args.name)) c.name.ensures h))

pub returns-clause-no : goal.returns-clause-no
returns-clause-no g c = λ f x h n.
    let s = c.self.inside in
    let r = c.in-Some.resident in
    let within : c.args.slot < length s.slots.items = omega (arith, s.slots.ok.0) in
    let is : resident_at s.slots.items c.args.slot ≡ Some r = read_at s.slots.items c.args.slot c.index.result.now r within c.index.ensures (sym c.in-Some.is) in
    let here : Some (seat (pocket_of s.store r.owner) r) ≡ Some x = sym (seat_is (pocket_of s.store) s.slots.items c.args.self.now.seats c.args.slot r (ap (λ (v : Seating _). v.seats) c.self.view_is) is) ∙ h in
    is_other r.name c.args.name (subst (λ n. IsFalse (n == c.args.name)) c.name.ensures f) (ap (λ (o : Option (Seat _)). (unwrap_or o x).stand.name) here ∙ n)
