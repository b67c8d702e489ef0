use Rattle.std.proofs.Common.{◌≡◌, ℕ, ◌<◌, [], length, Some, refl, sym, ap, subst, ◌∙◌, arith}
use Rattle.std.specs.Prelude.{slice_get}
use Rattle.shard.specs.Mails.{MailBook}
use Rattle.shard.specs.Stand.{Final, Seating}
use Rattle.world.specs.declared.home.Desk.{Desk}
use Rattle.world.specs.Places.{Places, shard_at}
use Rattle.world.specs.Kept.{IsWorld}
use Rattle.world.specs.Steps.{did_end, IsWorldTurn}
use Rattle.world.proofs.KeptFacts.{IsOver}
use Rattle.world.proofs.TurnFacts.{ran_in, near_end, over_in, idle_in, with_left}
use Rattle.world.proofs.IndexFacts.{shard_read, desk_read}
use Rattle.world.proofs.world.World.turn.Goals as goal

pub invariant_of-self : goal.invariant_of-self
invariant_of-self g c =
    let s = c.self.inside in
    let w : Places = record { desks = s.desks.items; shards = s.shards.items; deques = s.deques.items } in
    let within : c.args.i < length s.shards.items = omega (arith, s.shards.ok.0) in
    let sh = c.turn-turned.new.self in
    let read = shard_read s.shards.items within c.index_mut-shard.ensures.value in
    (ran_in w c.args.i c.in-Ran.field-0 _ sh c.self.invariant within read c.in-Ran.ensures c.reveal_invariant.ensures).world

pub returns-in-Ran : goal.returns-in-Ran
returns-in-Ran g c =
    let s = c.self.inside in
    let w : Places = record { desks = s.desks.items; shards = s.shards.items; deques = s.deques.items } in
    let within : c.args.i < length s.shards.items = omega (arith, s.shards.ok.0) in
    let sh = c.turn-turned.new.self in
    let read = shard_read s.shards.items within c.index_mut-shard.ensures.value in
    rw (← c.self.view_is) (ran_in w c.args.i c.in-Ran.field-0 _ sh c.self.invariant within read c.in-Ran.ensures c.reveal_invariant.ensures).turn

pub index_mut-desk-requires : goal.index_mut-desk-requires
index_mut-desk-requires g c =
    let s = c.self.inside in
    let w : Places = record { desks = s.desks.items; shards = s.shards.items; deques = s.deques.items } in
    let within : c.args.i < length s.shards.items = omega (arith, s.shards.ok.0) in
    let sh = c.turn-turned.new.self in
    let read = shard_read s.shards.items within c.index_mut-shard.ensures.value in
    let x : Final MailBook = c.in-Ended.dossier in
    let near : x.name < length s.desks.items = near_end w c.args.i x _ sh c.self.invariant read c.in-Ended.ensures in
    omega (arith, near, c.name.ensures, s.desks.ok.0)

pub invariant_of-self-in-Ended : goal.invariant_of-self-in-Ended
invariant_of-self-in-Ended g c =
    let s = c.self.inside in
    let w : Places = record { desks = s.desks.items; shards = s.shards.items; deques = s.deques.items } in
    let within : c.args.i < length s.shards.items = omega (arith, s.shards.ok.0) in
    let sh = c.turn-turned.new.self in
    let read = shard_read s.shards.items within c.index_mut-shard.ensures.value in
    let x : Final MailBook = c.in-Ended.dossier in
    let near : x.name < length s.desks.items = near_end w c.args.i x _ sh c.self.invariant read c.in-Ended.ensures in
    let n = c.name.result in
    let k = c.reveal_invariant-in-Ended.ensures in
    let over : IsOver x = record { records = k.records; counters = k.counters; made = k.made; heard = k.heard; told = k.told } in
    let found = desk_read s.desks.items (omega (arith, near, c.name.ensures)) c.index_mut-desk.ensures.value in
    let f = over_in w c.args.i n x _ sh _ (did_end x.ending) c.self.invariant within read c.in-Ended.ensures over (sym c.name.ensures) found refl in
    subst (λ (e : Desk). IsWorld (with_left w c.args.i sh n e)) (sym c.go.ensures) f.world

pub returns-in-Ended : goal.returns-in-Ended
returns-in-Ended g c =
    let s = c.self.inside in
    let w : Places = record { desks = s.desks.items; shards = s.shards.items; deques = s.deques.items } in
    let within : c.args.i < length s.shards.items = omega (arith, s.shards.ok.0) in
    let sh = c.turn-turned.new.self in
    let read = shard_read s.shards.items within c.index_mut-shard.ensures.value in
    let x : Final MailBook = c.in-Ended.dossier in
    let near : x.name < length s.desks.items = near_end w c.args.i x _ sh c.self.invariant read c.in-Ended.ensures in
    let n = c.name.result in
    let k = c.reveal_invariant-in-Ended.ensures in
    let over : IsOver x = record { records = k.records; counters = k.counters; made = k.made; heard = k.heard; told = k.told } in
    let found = desk_read s.desks.items (omega (arith, near, c.name.ensures)) c.index_mut-desk.ensures.value in
    let f = over_in w c.args.i n x _ sh _ c.end_outcome.result c.self.invariant within read c.in-Ended.ensures over (sym c.name.ensures) found (c.end_outcome.ensures ∙ ap did_end c.ending-ending.ensures) in
    rw (← c.self.view_is) (subst (λ (e : Desk). IsWorldTurn c.args.i c.end_outcome.result w (with_left w c.args.i sh n e)) (sym c.go.ensures) f.turn)

pub invariant_of-self-in-Idle : goal.invariant_of-self-in-Idle
invariant_of-self-in-Idle g c =
    let s = c.self.inside in
    let w : Places = record { desks = s.desks.items; shards = s.shards.items; deques = s.deques.items } in
    let within : c.args.i < length s.shards.items = omega (arith, s.shards.ok.0) in
    let sh = c.turn-turned.new.self in
    let read = shard_read s.shards.items within c.index_mut-shard.ensures.value in
    (idle_in w c.args.i _ sh c.self.invariant within read c.in-Idle.ensures).world

pub returns-in-Idle : goal.returns-in-Idle
returns-in-Idle g c =
    let s = c.self.inside in
    let w : Places = record { desks = s.desks.items; shards = s.shards.items; deques = s.deques.items } in
    let within : c.args.i < length s.shards.items = omega (arith, s.shards.ok.0) in
    let sh = c.turn-turned.new.self in
    let read = shard_read s.shards.items within c.index_mut-shard.ensures.value in
    rw (← c.self.view_is) (idle_in w c.args.i _ sh c.self.invariant within read c.in-Idle.ensures).turn
