use Rattle.std.proofs.Common.{◌≡◌, ◌<◌, [], length, refl, arith, subst}
use Rattle.std.proofs.lemmas.List.{get_or_read}
use Rattle.shard.specs.Mails.{MailBook}
use Rattle.shard.specs.Stand.{Seating}
use Rattle.world.specs.Places.{Places, shard_at}
use Rattle.shard.specs.Turns.{IsRebased}
use Rattle.world.proofs.TurnFacts.{rebase_in}
use Rattle.world.proofs.world.World.rebase.Goals as goal

pub invariant_of-self : goal.invariant_of-self
invariant_of-self g c =
    let s = c.self.inside in
    let w : Places = record { desks = s.desks.items; shards = s.shards.items; deques = s.deques.items } in
    let within : c.args.i < length s.shards.items = omega (arith, s.shards.ok.0) in
    let sh : Seating MailBook = c.rebase.new.self in
    let read : c.index_mut-shard.result.now ≡ shard_at s.shards.items c.args.i = get_or_read s.shards.items c.args.i c.index_mut-shard.result.now within c.index_mut-shard.ensures.value (record { seats = []; clock = 0 }) in
    let h : IsRebased (shard_at s.shards.items c.args.i) sh = subst (λ x. IsRebased x sh) read c.rebase.ensures in
    let f = rebase_in w c.args.i sh c.self.invariant within h in
    f.world

pub returns : goal.returns
returns g c =
    let s = c.self.inside in
    let w : Places = record { desks = s.desks.items; shards = s.shards.items; deques = s.deques.items } in
    let within : c.args.i < length s.shards.items = omega (arith, s.shards.ok.0) in
    let sh : Seating MailBook = c.rebase.new.self in
    let read : c.index_mut-shard.result.now ≡ shard_at s.shards.items c.args.i = get_or_read s.shards.items c.args.i c.index_mut-shard.result.now within c.index_mut-shard.ensures.value (record { seats = []; clock = 0 }) in
    let h : IsRebased (shard_at s.shards.items c.args.i) sh = subst (λ x. IsRebased x sh) read c.rebase.ensures in
    let f = rebase_in w c.args.i sh c.self.invariant within h in
    rw (← c.self.view_is) (sh, record { rebased = h; same = f.same; rest = refl })
