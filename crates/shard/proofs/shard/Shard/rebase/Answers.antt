use Rattle.std.proofs.Common.{refl, ap, ◌∙◌}
use Rattle.packet_store.specs.Books.{pocket_of}
use Rattle.shard.specs.Stand.{Seating, seat_at, stands_of}
use Rattle.shard.specs.Seats.{HasBegun}
use Rattle.shard.proofs.SlotChanges.{IsShard-rows}
use Rattle.shard.proofs.RestartFacts.{begun_shard, begun_offset}
use Rattle.shard.proofs.shard.Shard.rebase.Goals as goal

pub begin_all_anew-requires-clause-was : goal.begin_all_anew-requires-clause-was
begin_all_anew-requires-clause-was g c =
    let s = c.self.inside in
    let clock = g.A.Agenda.time s.agenda in
    (pocket_of s.store, clock, IsShard-rows g.M.Mail.seen (pocket_of s.store) (g.A.Agenda.entries s.agenda) (g.A.Agenda.entries c.rewind.new.self) clock clock s.slots.items c.self.invariant c.rewind.ensures.entries refl)

pub invariant_of-self : goal.invariant_of-self
invariant_of-self g c =
    let s = c.self.inside in
    let p = pocket_of s.store in
    let clock = g.A.Agenda.time s.agenda in
    let rewound = IsShard-rows g.M.Mail.seen p (g.A.Agenda.entries s.agenda) (g.A.Agenda.entries c.rewind.new.self) clock clock s.slots.items c.self.invariant c.rewind.ensures.entries refl in
    begun_shard g.M.Mail.seen p clock s.slots.items (g.A.Agenda.entries c.begin_all_anew.new.agenda) c.begin_all_anew.new.slots.items (g.A.Agenda.time c.begin_all_anew.new.agenda) (c.begin_all_anew.ensures.begun p clock rewound) c.begin_all_anew.ensures.time

pub returns : goal.returns
returns g c =
    let s = c.self.inside in
    let p = pocket_of s.store in
    let clock = g.A.Agenda.time s.agenda in
    let rewound = IsShard-rows g.M.Mail.seen p (g.A.Agenda.entries s.agenda) (g.A.Agenda.entries c.rewind.new.self) clock clock s.slots.items c.self.invariant c.rewind.ensures.entries refl in
    let b : HasBegun g.M.Mail.seen p (g.A.Agenda.entries c.begin_all_anew.new.agenda) clock s.slots.items c.begin_all_anew.new.slots.items 256 = c.begin_all_anew.ensures.begun p clock rewound in
    record {
      stands = b.stands ∙ ap (λ (v : Seating _). stands_of v.seats) c.self.view_is;
      clock = c.begin_all_anew.ensures.time;
      offsets = begun_offset g.M.Mail.seen p clock s.slots.items (g.A.Agenda.entries c.begin_all_anew.new.agenda) c.begin_all_anew.new.slots.items b;
      kept = λ k x h some. b.kept k x (ap (λ (v : Seating _). seat_at v.seats k) c.self.view_is ∙ h) some;
    }
