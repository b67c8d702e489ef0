use Rattle.std.proofs.Common.{ap}
use Rattle.packet_store.specs.Books.{pocket_of}
use Rattle.shard.proofs.SlotChanges.{told_at}
use Rattle.shard.proofs.shard.Shard.reveal_invariant.Goals as goal

pub returns : goal.returns
returns g c =
    λ slot x h.
    let s = c.self.inside in
    told_at g.M.Mail.seen (pocket_of s.store) (g.A.Agenda.entries s.agenda) (g.A.Agenda.time s.agenda) s.slots.items c.args.self.now.seats slot x c.self.invariant (ap (λ v. v.seats) c.self.view_is) h
