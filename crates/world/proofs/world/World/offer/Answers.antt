use Rattle.std.proofs.Common.{◌≡◌, ℕ, ◌<◌, [], length, set, Some, sym, subst, arith}
use Rattle.std.specs.Prelude.{slice_get}
use Rattle.shard.specs.Mails.{MailBook}
use Rattle.shard.specs.Stand.{Stand, Seating}
use Rattle.world.specs.declared.home.Desk.{Desk}
use Rattle.world.specs.Places.{Places, shard_at, deque_at}
use Rattle.world.specs.declared.steps.Did.TheVariants.{Done, NoMemory}
use Rattle.world.specs.Kept.{IsWorld}
use Rattle.world.specs.Steps.{IsOffer}
use Rattle.world.proofs.MoveFacts.{Packing, packing, queued_in, handed_in, moved_world}
use Rattle.world.proofs.IndexFacts.{shard_read, deque_read, desk_read}
use Rattle.world.proofs.world.World.offer.Goals as goal

pub index_mut-desk-requires : goal.index_mut-desk-requires
index_mut-desk-requires g c =
    let s = c.self.inside in
    let w : Places = record { desks = s.desks.items; shards = s.shards.items; deques = s.deques.items } in
    let within : c.args.i < length s.shards.items = omega (arith, s.shards.ok.0) in
    let p = c.in-Ok.parcel in
    let sh = c.pack.new.self in
    let n = c.name-name.result in
    let k = packing w c.args.i c.args.slot n p _ sh c.self.invariant (shard_read s.shards.items within c.index_mut.ensures.value) c.name-name.ensures c.in-Ok.ensures.ok in
    omega (arith, k.near, s.desks.ok.0)

pub invariant_of-self-in_default : goal.invariant_of-self-in_default
invariant_of-self-in_default g c =
    let s = c.self.inside in
    let w : Places = record { desks = s.desks.items; shards = s.shards.items; deques = s.deques.items } in
    let within : c.args.i < length s.shards.items = omega (arith, s.shards.ok.0) in
    let p = c.in-Ok.parcel in
    let sh = c.pack.new.self in
    let n = c.name-name.result in
    let k = packing w c.args.i c.args.slot n p _ sh c.self.invariant (shard_read s.shards.items within c.index_mut.ensures.value) c.name-name.ensures c.in-Ok.ensures.ok in
    let deep : c.args.i < length s.deques.items = omega (arith, within, c.self.invariant.as_many) in
    let waits = deque_read s.deques.items deep c.index_mut-2.ensures.value in
    let f = handed_in w c.args.i c.args.slot n p sh _ _ c.push.new.self c.self.invariant within k (desk_read s.desks.items k.near c.index_mut-desk.ensures.value) waits c.in_default.ensures.err in
    subst (λ (e : Desk). IsWorld (moved_world w n e c.args.i sh (set w.deques c.args.i c.push.new.self))) (sym c.go.ensures) f.world

pub returns-in_default : goal.returns-in_default
returns-in_default g c =
    let s = c.self.inside in
    let w : Places = record { desks = s.desks.items; shards = s.shards.items; deques = s.deques.items } in
    let within : c.args.i < length s.shards.items = omega (arith, s.shards.ok.0) in
    let p = c.in-Ok.parcel in
    let sh = c.pack.new.self in
    let n = c.name-name.result in
    let k = packing w c.args.i c.args.slot n p _ sh c.self.invariant (shard_read s.shards.items within c.index_mut.ensures.value) c.name-name.ensures c.in-Ok.ensures.ok in
    let deep : c.args.i < length s.deques.items = omega (arith, within, c.self.invariant.as_many) in
    let waits = deque_read s.deques.items deep c.index_mut-2.ensures.value in
    let f = handed_in w c.args.i c.args.slot n p sh _ _ c.push.new.self c.self.invariant within k (desk_read s.desks.items k.near c.index_mut-desk.ensures.value) waits c.in_default.ensures.err in
    rw (← c.self.view_is) (subst (λ (e : Desk). IsOffer c.args.i c.args.slot NoMemory w (moved_world w n e c.args.i sh (set w.deques c.args.i c.push.new.self))) (sym c.go.ensures) f.offer)

pub invariant_of-self-2 : goal.invariant_of-self-2
invariant_of-self-2 g c =
    let s = c.self.inside in
    let w : Places = record { desks = s.desks.items; shards = s.shards.items; deques = s.deques.items } in
    let within : c.args.i < length s.shards.items = omega (arith, s.shards.ok.0) in
    let p = c.in-Ok.parcel in
    let sh = c.pack.new.self in
    let n = c.name-name.result in
    let k = packing w c.args.i c.args.slot n p _ sh c.self.invariant (shard_read s.shards.items within c.index_mut.ensures.value) c.name-name.ensures c.in-Ok.ensures.ok in
    let deep : c.args.i < length s.deques.items = omega (arith, within, c.self.invariant.as_many) in
    let waits = deque_read s.deques.items deep c.index_mut-2.ensures.value in
    let f = queued_in w c.args.i c.args.slot n p sh _ _ c.push.new.self c.self.invariant within k (desk_read s.desks.items k.near c.index_mut-desk.ensures.value) waits c.in-Ok-push.ensures.ok in
    subst (λ (e : Desk). IsWorld (moved_world w n e c.args.i sh (set w.deques c.args.i c.push.new.self))) (sym c.go-2.ensures) f.world

pub returns : goal.returns
returns g c =
    let s = c.self.inside in
    let w : Places = record { desks = s.desks.items; shards = s.shards.items; deques = s.deques.items } in
    let within : c.args.i < length s.shards.items = omega (arith, s.shards.ok.0) in
    let p = c.in-Ok.parcel in
    let sh = c.pack.new.self in
    let n = c.name-name.result in
    let k = packing w c.args.i c.args.slot n p _ sh c.self.invariant (shard_read s.shards.items within c.index_mut.ensures.value) c.name-name.ensures c.in-Ok.ensures.ok in
    let deep : c.args.i < length s.deques.items = omega (arith, within, c.self.invariant.as_many) in
    let waits = deque_read s.deques.items deep c.index_mut-2.ensures.value in
    let f = queued_in w c.args.i c.args.slot n p sh _ _ c.push.new.self c.self.invariant within k (desk_read s.desks.items k.near c.index_mut-desk.ensures.value) waits c.in-Ok-push.ensures.ok in
    rw (← c.self.view_is) (subst (λ (e : Desk). IsOffer c.args.i c.args.slot Done w (moved_world w n e c.args.i sh (set w.deques c.args.i c.push.new.self))) (sym c.go-2.ensures) f.offer)
