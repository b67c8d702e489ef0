use Rattle.std.proofs.Common.{◌≡◌, ℕ, ◌<◌, ◌≤◌, List, length, set, Option, Some, None, refl, sym, ap, ◌∙◌, arith, subst, inl, inr}
use Rattle.std.proofs.lemmas.List.{get_or_read, get_or_past, set-get_or}
use Rattle.packet_store.specs.Books.{pocket_of}
use Rattle.shard.specs.Bodies.{Residence as Resident}
use Rattle.shard.specs.Stand.{Seating}
use Rattle.shard.specs.Seats.{resident_at, seat, seat_of, seats_of, IsShard}
use Rattle.shard.specs.Turns.{Polls}
use Rattle.shard.proofs.SlotChanges.{read_at, seated_at, seat_is, vacant_seat, IsAloneAt, GoesOn, stays}
use Rattle.shard.proofs.shard.Shard.poll.Goals as goal

pub returns-then-slot-len : goal.returns-then-slot-len
returns-then-slot-len g c =
    let s = c.self.inside in
    let past : length s.slots.items ≤ c.args.slot = omega (arith, s.slots.ok.0) in
    inl (refl, refl, vacant_seat (pocket_of s.store) s.slots.items c.args.self.now.seats c.args.slot (ap (λ (x : Seating _). x.seats) c.self.view_is) (get_or_past s.slots.items c.args.slot None past))

pub returns-in_default : goal.returns-in_default
returns-in_default g c =
    let s = c.self.inside in
    let within : c.args.slot < length s.slots.items = omega (arith, s.slots.ok.0) in
    let none : resident_at s.slots.items c.args.slot ≡ None = sym (sym c.in_default.is ∙ get_or_read s.slots.items c.args.slot c.index_mut.result.now within c.index_mut.ensures.value None) in
    let same : set s.slots.items c.args.slot c.index_mut.result.now ≡ s.slots.items =
    ap (set s.slots.items c.args.slot) c.index_mut.ensures.value ∙ set-get_or s.slots.items c.args.slot c.index_mut.result.now in
    inl (
      refl,
      ap (λ (l : List (Option (Resident _))). (let x : Seating _ = record { seats = seats_of (pocket_of s.store) l; clock = g.A.Agenda.time s.agenda } in x)) same ∙ c.self.view_is,
      vacant_seat (pocket_of s.store) s.slots.items c.args.self.now.seats c.args.slot (ap (λ (x : Seating _). x.seats) c.self.view_is) none,
    )

pub poll-requires-clause-seated : goal.poll-requires-clause-seated
poll-requires-clause-seated g c =
    let s = c.self.inside in
    let r = c.in-Some.resident in
    let within : c.args.slot < length s.slots.items = omega (arith, s.slots.ok.0) in
    let is : resident_at s.slots.items c.args.slot ≡ Some r = read_at s.slots.items c.args.slot c.index_mut.result.now r within c.index_mut.ensures.value (sym c.in-Some.is) in
    (pocket_of s.store r.owner, seated_at g.M.Mail.seen (pocket_of s.store) (g.A.Agenda.entries s.agenda) (g.A.Agenda.time s.agenda) s.slots.items c.args.slot r c.self.invariant is)

pub invariant_of-self-2 : goal.invariant_of-self-2
invariant_of-self-2 g c =
    let s = c.self.inside in
    let r = c.in-Some.resident in
    let k : ℕ = c.args.slot in
    let clock : ℕ = g.A.Agenda.time s.agenda in
    let rows = g.A.Agenda.entries s.agenda in
    let later = g.A.Agenda.entries c.poll.new.agenda in
    let within : k < length s.slots.items = omega (arith, s.slots.ok.0) in
    let is : resident_at s.slots.items k ≡ Some r = read_at s.slots.items k c.index_mut.result.now r within c.index_mut.ensures.value (sym c.in-Some.is) in
    let seated = c.poll.ensures.seated (pocket_of s.store r.owner) (seated_at g.M.Mail.seen (pocket_of s.store) rows clock s.slots.items k r c.self.invariant is) in
    let a : IsAloneAt (pocket_of s.store) (pocket_of s.store) rows later s.slots.items k r = record { is = is; within = omega (arith, within, c.self.invariant.long); rows_stay = c.poll.ensures.others; pockets_stay = λ o n. refl } in
    let on : GoesOn clock clock = record { on = omega arith; early = c.self.invariant.early } in
    let h = stays g.M.Mail.seen (pocket_of s.store) (pocket_of s.store) rows later clock clock s.slots.items k r c.poll.new.self c.self.invariant on a seated c.poll.ensures.owner in
    subst (λ t. IsShard g.M.Mail.seen (pocket_of s.store) later t (set s.slots.items k (Some c.poll.new.self))) (sym c.poll.ensures.time) h.shard

pub returns : goal.returns
returns g c =
    let s = c.self.inside in
    let r = c.in-Some.resident in
    let t = c.poll.new.self in
    let k : ℕ = c.args.slot in
    let clock : ℕ = g.A.Agenda.time s.agenda in
    let rows = g.A.Agenda.entries s.agenda in
    let later = g.A.Agenda.entries c.poll.new.agenda in
    let within : k < length s.slots.items = omega (arith, s.slots.ok.0) in
    let is : resident_at s.slots.items k ≡ Some r = read_at s.slots.items k c.index_mut.result.now r within c.index_mut.ensures.value (sym c.in-Some.is) in
    let seated = c.poll.ensures.seated (pocket_of s.store r.owner) (seated_at g.M.Mail.seen (pocket_of s.store) rows clock s.slots.items k r c.self.invariant is) in
    let a : IsAloneAt (pocket_of s.store) (pocket_of s.store) rows later s.slots.items k r = record { is = is; within = omega (arith, within, c.self.invariant.long); rows_stay = c.poll.ensures.others; pockets_stay = λ o n. refl } in
    let on : GoesOn clock clock = record { on = omega arith; early = c.self.invariant.early } in
    let h = stays g.M.Mail.seen (pocket_of s.store) (pocket_of s.store) rows later clock clock s.slots.items k r t c.self.invariant on a seated c.poll.ensures.owner in
    let p = pocket_of s.store in
    inr (
      seat (p r.owner) r,
      seat (p t.owner) t,
      record {
        was = seat_is p s.slots.items c.args.self.now.seats k r (ap (λ (x : Seating _). x.seats) c.self.view_is) is;
        polls = subst (λ o. Polls g.M.Mail.seen c.poll.result (seat (p r.owner) r) (seat (p o) t)) (sym c.poll.ensures.owner) (c.poll.ensures.polls (p r.owner));
        published = c.poll.ensures.published;
        others = (λ i. record { seats = h.seats i; clock = c.poll.ensures.time i }) ∙ ap (λ (x : Seating _). record x { seats = set x.seats k (seat_of p (Some t)) }) c.self.view_is;
      },
    )
