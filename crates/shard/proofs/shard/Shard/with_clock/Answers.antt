use Rattle.std.proofs.Common.{◌+◌, ap, ◌∙◌, arith, None, [], ◌∷◌, length, get_or}
use Rattle.std.proofs.lemmas.List.{length-append}
use Rattle.packet_store.specs.Books.{pocket_of}
use Rattle.shard.proofs.SeatFacts.{vacant_more, IsShard-new, no_seats}
use Rattle.shard.proofs.shard.Shard.with_clock.Goals as goal

pub loop-init : goal.loop-init
loop-init g c =
    let h = c.in_ok-reserve.ensures in
    let e = h.items ∙ c.new-slots.ensures.items in
    (ap length e, λ k. ap (λ l. get_or l k None) e, omega (arith, h.ok))

pub push_reserved-requires : goal.push_reserved-requires
push_reserved-requires g c = omega (arith, c.loop.invariant.0, c.loop.invariant.2, c.loop-test.true, c.loop.slots.ok.0)

pub loop-preserved : goal.loop-preserved
loop-preserved g c =
    let p = c.push_reserved.ensures in
    let i = c.loop.invariant in (
      ap length p.items ∙ length-append c.loop.slots.items (None ∷ []) ∙ ap (λ n. n + 1) i.0,
      λ k. ap (λ l. get_or l k None) p.items ∙ vacant_more c.loop.slots.items i.1 k,
      omega (arith, p.capacity, i.2),
    )

pub invariant_of-result : goal.invariant_of-result
invariant_of-result g c =
    let a = c.in_ok-new.field-0 in
    let i = c.loop.invariant in
    IsShard-new g.M.Mail.seen (pocket_of c.new.result) (g.A.Agenda.entries a) (g.A.Agenda.time a) c.loop.slots.items i.1 c.in_ok-new.ensures.empty (omega (arith, i.0, c.loop-test.false, c.loop.auto.counter-end)) (omega (arith, c.in_ok-new.ensures.time, c.requires))

pub returns-clause-vacant : goal.returns-clause-vacant
returns-clause-vacant g c = no_seats (pocket_of c.new.result) c.loop.slots.items c.loop.invariant.1
