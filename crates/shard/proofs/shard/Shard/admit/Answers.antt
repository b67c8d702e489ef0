use Rattle.std.proofs.Common.{◌≡◌, ℕ, ◌<◌, List, length, set, Option, Some, None, IsSome, refl, sym, ap, ◌∙◌, arith, subst}
use Rattle.std.proofs.lemmas.List.{get_or-set_same}
use Rattle.packet_store.specs.Books.{pocket_of}
use Rattle.packet_store.specs.Pocket.{Pocket}
use Rattle.shard.specs.Bodies.{Residence as Resident}
use Rattle.shard.specs.Stand.{Seating}
use Rattle.shard.specs.Seats.{resident_at, standing, seat, seat_of, seats_of, IsShard}
use Rattle.shard.proofs.SlotChanges.{seat_is, vacant_seat, filled_seat, comes}
use Rattle.shard.proofs.shard.Shard.admit.Goals as goal

pub returns-in_default-clause-back : goal.returns-in_default-clause-back
returns-in_default-clause-back g c =
    let s = c.self.inside in (
      refl,
      λ k within. filled_seat (pocket_of s.store) s.slots.items c.args.self.now.seats k (ap (λ (x : Seating _). x.seats) c.self.view_is)
          (subst (λ (l : List (Option (Resident _))). IsSome (resident_at l k)) c.as_slice.ensures.value (c.in_default.ensures.none k (omega (arith, within, c.self.invariant.long, ap length c.as_slice.ensures.value)))),
    )

pub returns-in-Err-clause-memory : goal.returns-in-Err-clause-memory
returns-in-Err-clause-memory g c =
    let s = c.self.inside in
    let k : ℕ = c.in-Some.slot in
    let found = subst (λ (l : List (Option (Resident _))). (k < length l) × (resident_at l k ≡ None) × ((j : ℕ) → j < k → IsSome (resident_at l j))) c.as_slice.ensures.value c.in-Some.ensures.some in
    let inside : k < 256 = omega (arith, found.0, c.self.invariant.long) in
    (k, inside, vacant_seat (pocket_of s.store) s.slots.items c.args.self.now.seats k (ap (λ (x : Seating _). x.seats) c.self.view_is) found.1)

pub invariant_of-self-2 : goal.invariant_of-self-2
invariant_of-self-2 g c =
    let s = c.self.inside in
    let k : ℕ = c.in-Some.slot in
    let owner : ℕ = c.in-Ok.resident.owner in
    let t = c.enter.new.self in
    let clock : ℕ = g.A.Agenda.time s.agenda in
    let rows = g.A.Agenda.entries s.agenda in
    let later = g.A.Agenda.entries c.enter.new.agenda in
    let after = pocket_of c.settle.new.store in
    let found = subst (λ (l : List (Option (Resident _))). (k < length l) × (resident_at l k ≡ None) × ((j : ℕ) → j < k → IsSome (resident_at l j))) c.as_slice.ensures.value c.in-Some.ensures.some in
    let inside : k < 256 = omega (arith, found.0, c.self.invariant.long) in
    let seated = c.enter.ensures.seated (after owner) c.in-Ok.ensures.going in
    let is : t.owner ≡ owner = ap (λ (x : Resident _). x.owner) c.enter.ensures.same in
    let fresh : (pocket_of s.store owner).budget ≡ 0 = ap (λ (x : Pocket). x.budget) c.in-Ok.ensures.stranger in
    let h = comes g.M.Mail.seen (pocket_of s.store) after rows later clock s.slots.items k owner t c.self.invariant inside fresh c.in-Ok.ensures.others c.enter.ensures.others seated is in
    subst (λ x. IsShard g.M.Mail.seen after later x (set s.slots.items k (Some t))) (sym c.enter.ensures.time) h.shard

pub returns-clause-ok : goal.returns-clause-ok
returns-clause-ok g c =
    let s = c.self.inside in
    let k : ℕ = c.in-Some.slot in
    let owner : ℕ = c.in-Ok.resident.owner in
    let t = c.enter.new.self in
    let clock : ℕ = g.A.Agenda.time s.agenda in
    let rows = g.A.Agenda.entries s.agenda in
    let later = g.A.Agenda.entries c.enter.new.agenda in
    let after = pocket_of c.settle.new.store in
    let found = subst (λ (l : List (Option (Resident _))). (k < length l) × (resident_at l k ≡ None) × ((j : ℕ) → j < k → IsSome (resident_at l j))) c.as_slice.ensures.value c.in-Some.ensures.some in
    let inside : k < 256 = omega (arith, found.0, c.self.invariant.long) in
    let seated = c.enter.ensures.seated (after owner) c.in-Ok.ensures.going in
    let is : t.owner ≡ owner = ap (λ (x : Resident _). x.owner) c.enter.ensures.same in
    let fresh : (pocket_of s.store owner).budget ≡ 0 = ap (λ (x : Pocket). x.budget) c.in-Ok.ensures.stranger in
    let h = comes g.M.Mail.seen (pocket_of s.store) after rows later clock s.slots.items k owner t c.self.invariant inside fresh c.in-Ok.ensures.others c.enter.ensures.others seated is in
    let seats = ap (λ (x : Seating _). x.seats) c.self.view_is in
    let stands : standing (after owner) t ≡ c.args.parcel = ap (λ (x : Resident _). standing (after owner) x) c.enter.ensures.same ∙ c.in-Ok.ensures.same in (
      seat (after t.owner) t,
      record {
        vacant = vacant_seat (pocket_of s.store) s.slots.items c.args.self.now.seats k seats found.1;
        inside = inside;
        least = λ j l. filled_seat (pocket_of s.store) s.slots.items c.args.self.now.seats j seats (found.2 j l);
        same = ap (λ o. standing (after o) t) is ∙ stands;
        there = seat_is after (set s.slots.items k (Some t)) (seats_of after (set s.slots.items k (Some t))) k t refl (get_or-set_same s.slots.items k (Some t) None found.0);
        others = h.seats ∙ ap (λ (x : Seating _). set x.seats k (seat_of after (Some t))) c.self.view_is;
        clock = c.enter.ensures.time ∙ ap (λ (x : Seating _). x.clock) c.self.view_is;
      },
    )
