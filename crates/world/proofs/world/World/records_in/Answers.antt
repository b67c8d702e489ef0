use Rattle.std.proofs.Common.{◌≡◌, ◌≤◌, ◌<◌, [], length, Some, None, sym, ap, ◌∙◌, arith, subst}
use Rattle.shard.specs.Stand.{seat_at}
use Rattle.world.specs.Places.{Places, shard_at, stand_at}
use Rattle.world.specs.Runs.{stand_records}
use Rattle.world.proofs.Sitting.{nobody_past}
use Rattle.world.proofs.ReadFacts.{who_sits, nobody_sits}
use Rattle.world.proofs.IndexFacts.{shard_read}
use Rattle.world.proofs.world.World.records_in.Goals as goal

pub returns-then-shard-len : goal.returns-then-shard-len
returns-then-shard-len g c =
    let s = c.self.inside in
    let past : length s.shards.items ≤ c.args.shard = omega (arith, s.shards.ok.0) in
    subst (λ (v : Places). [] ≡ stand_records (stand_at v.shards c.args.shard c.args.slot)) c.self.view_is (sym (ap stand_records (nobody_past s.shards.items c.args.shard c.args.slot past)))

pub returns-in-Ok : goal.returns-in-Ok
returns-in-Ok g c =
    let s = c.self.inside in
    let within : c.args.shard < length s.shards.items = omega (arith, s.shards.ok.0) in
    let read = shard_read s.shards.items within c.index.ensures in
    let h = c.in-Ok.ensures.there in
    let there : seat_at (shard_at s.shards.items c.args.shard).seats c.args.slot ≡ Some h.0 = subst (λ x. seat_at x.seats c.args.slot ≡ Some h.0) read h.1 in
    subst (λ (v : Places). c.in-Ok.records.now ≡ stand_records (stand_at v.shards c.args.shard c.args.slot)) c.self.view_is (h.2 ∙ sym (ap stand_records (who_sits s.shards.items c.args.shard c.args.slot h.0 there)))

pub returns-in-Err : goal.returns-in-Err
returns-in-Err g c =
    let s = c.self.inside in
    let within : c.args.shard < length s.shards.items = omega (arith, s.shards.ok.0) in
    let read = shard_read s.shards.items within c.index.ensures in
    let none : seat_at (shard_at s.shards.items c.args.shard).seats c.args.slot ≡ None = subst (λ x. seat_at x.seats c.args.slot ≡ None) read c.in-Err.ensures.vacant in
    subst (λ (v : Places). [] ≡ stand_records (stand_at v.shards c.args.shard c.args.slot)) c.self.view_is (sym (ap stand_records (nobody_sits s.shards.items c.args.shard c.args.slot none)))
