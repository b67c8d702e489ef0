use Rattle.std.proofs.Common.{ap, arith}
use Rattle.packet_store.specs.Books.{pocket_of}
use Rattle.shard.specs.Stand.{Seating}
use Rattle.shard.proofs.SeatFacts.{who_sits}
use Rattle.shard.proofs.shard.Shard.slot_of.Goals as goal

pub loop-slot-init : goal.loop-slot-init
loop-slot-init g c = λ k h. absurd (omega (arith, h))

pub returns-then-is_named-clause-some : goal.returns-then-is_named-clause-some
returns-then-is_named-clause-some g c = c.is_named.ensures.yes c.if-is_named.true

pub returns-then-is_named-2-clause-some : goal.returns-then-is_named-2-clause-some
returns-then-is_named-2-clause-some g c = c.is_named-in-loop-slot.ensures.yes c.if-is_named-2.true

pub returns-clause-none : goal.returns-clause-none
returns-clause-none g c = λ k x h.
    let s = c.self.inside in
    let w = who_sits (pocket_of s.store) s.slots.items c.args.self.now.seats k x (ap (λ (v : Seating _). v.seats) c.self.view_is) h in
    c.loop-slot.invariant k (omega (arith, w.within, c.loop-slot-test.false, c.loop-slot.auto.slot-end, c.len-slot-end.ensures, s.slots.ok.0)) x h
