use Rattle.std.proofs.Common.{◌≡◌, ℕ, ◌<◌, List, [], length, set, Some, refl, sym, subst, arith}
use Rattle.std.specs.Prelude.{slice_get}
use Rattle.shard.specs.Mails.{MailBook}
use Rattle.shard.specs.Stand.{Stand, Seating}
use Rattle.world.specs.declared.home.Desk.{Desk}
use Rattle.world.specs.declared.home.Home.{Home}
use Rattle.world.specs.declared.home.Home.TheVariants.{Seated}
use Rattle.world.specs.Places.{Places, shard_at, deque_at}
use Rattle.world.specs.Kept.{IsWorld}
use Rattle.world.specs.Steps.{did_bring, IsBringing}
use Rattle.world.proofs.MoveFacts.{Fronting, fronting, waits_there, brought_in, moved_world}
use Rattle.world.proofs.IndexFacts.{shard_read, deque_read, desk_read}
use Rattle.world.proofs.world.World.bring.Goals as goal

pub index_mut-desk-requires : goal.index_mut-desk-requires
index_mut-desk-requires g c =
    let s = c.self.inside in
    let w : Places = record { desks = s.desks.items; shards = s.shards.items; deques = s.deques.items } in
    let deep : c.args.from < length s.deques.items = omega (arith, s.deques.ok.0) in
    let n = c.in-Some.name in
    let k = fronting w c.args.from n _ c.pop.new.self c.self.invariant (deque_read s.deques.items deep c.index_mut.ensures.value) c.in-Some.ensures.some in
    omega (arith, k.near, s.desks.ok.0)

pub unreachable-requires : goal.unreachable-requires
unreachable-requires g c =
    let s = c.self.inside in
    let w : Places = record { desks = s.desks.items; shards = s.shards.items; deques = s.deques.items } in
    let deep : c.args.from < length s.deques.items = omega (arith, s.deques.ok.0) in
    let n = c.in-Some.name in
    let k = fronting w c.args.from n _ c.pop.new.self c.self.invariant (deque_read s.deques.items deep c.index_mut.ensures.value) c.in-Some.ensures.some in
    let found = desk_read s.desks.items k.near c.index_mut-desk.ensures.value in
    c.in_default-leave_queue.ensures.none.1 c.args.from k.parcel (waits_there w c.args.from n c.pop.new.self _ k found)

pub invariant_of-self-2 : goal.invariant_of-self-2
invariant_of-self-2 g c =
    let s = c.self.inside in
    let w : Places = record { desks = s.desks.items; shards = s.shards.items; deques = s.deques.items } in
    let deep : c.args.from < length s.deques.items = omega (arith, s.deques.ok.0) in
    let n = c.in-Some.name in
    let k = fronting w c.args.from n _ c.pop.new.self c.self.invariant (deque_read s.deques.items deep c.index_mut.ensures.value) c.in-Some.ensures.some in
    let found = desk_read s.desks.items k.near c.index_mut-desk.ensures.value in
    let within : c.args.i < length s.shards.items = omega (arith, s.shards.ok.0) in
    let h = c.in-Some-leave_queue.ensures.some in
    let did = c.house-housed.result.did in
    let read = shard_read s.shards.items within c.index_mut-2.ensures.value in
    let f = brought_in w c.args.i c.args.from n c.pop.new.self _ c.leave_queue.new.self (Seated c.args.i 0) c.house-housed.result.home h.0 c.in-Some-leave_queue.parcel did (did_bring did) _ c.house-housed.new.shard c.self.invariant within deep k found h.1 h.2 read c.house-housed.ensures refl in
    subst (λ (e : Desk). IsWorld (moved_world w n e c.args.i c.house-housed.new.shard (set w.deques c.args.from c.pop.new.self))) (sym c.go.ensures) f.world

pub returns : goal.returns
returns g c =
    let s = c.self.inside in
    let w : Places = record { desks = s.desks.items; shards = s.shards.items; deques = s.deques.items } in
    let deep : c.args.from < length s.deques.items = omega (arith, s.deques.ok.0) in
    let n = c.in-Some.name in
    let k = fronting w c.args.from n _ c.pop.new.self c.self.invariant (deque_read s.deques.items deep c.index_mut.ensures.value) c.in-Some.ensures.some in
    let found = desk_read s.desks.items k.near c.index_mut-desk.ensures.value in
    let within : c.args.i < length s.shards.items = omega (arith, s.shards.ok.0) in
    let h = c.in-Some-leave_queue.ensures.some in
    let did = c.house-housed.result.did in
    let read = shard_read s.shards.items within c.index_mut-2.ensures.value in
    let f = brought_in w c.args.i c.args.from n c.pop.new.self _ c.leave_queue.new.self (Seated c.args.i 0) c.house-housed.result.home h.0 c.in-Some-leave_queue.parcel did c.bring_outcome.result _ c.house-housed.new.shard c.self.invariant within deep k found h.1 h.2 read c.house-housed.ensures c.bring_outcome.ensures in
    rw (← c.self.view_is) (subst (λ (e : Desk). IsBringing c.args.i c.args.from c.bring_outcome.result w (moved_world w n e c.args.i c.house-housed.new.shard (set w.deques c.args.from c.pop.new.self))) (sym c.go.ensures) f.bringing)
