use Rattle.std.proofs.Common.{◌≡◌, ◌<◌, [], length, sym, arith, subst}
use Rattle.std.proofs.lemmas.List.{get_or_read}
use Rattle.shard.specs.Mails.{MailBook, mail_seen}
use Rattle.shard.specs.Stand.{Seating}
use Rattle.world.specs.Places.{Places, shard_at}
use Rattle.shard.specs.Turns.{IsPoll}
use Rattle.world.specs.Steps.{IsWorldPoll}
use Rattle.world.proofs.TurnFacts.{poll_in, with_shard}
use Rattle.world.proofs.world.World.poll.Goals as goal

pub invariant_of-self : goal.invariant_of-self
invariant_of-self g c =
    let s = c.self.inside in
    let w : Places = record { desks = s.desks.items; shards = s.shards.items; deques = s.deques.items } in
    let within : c.args.i < length s.shards.items = omega (arith, s.shards.ok.0) in
    let sh : Seating MailBook = c.poll-answer.new.self in
    let read : c.index_mut-shard.result.now ≡ shard_at s.shards.items c.args.i = get_or_read s.shards.items c.args.i c.index_mut-shard.result.now within c.index_mut-shard.ensures.value (record { seats = []; clock = 0 }) in
    let h : IsPoll mail_seen c.poll-answer.result (shard_at s.shards.items c.args.i) sh c.args.slot = subst (λ x. IsPoll mail_seen c.poll-answer.result x sh c.args.slot) read c.poll-answer.ensures in
    let f = poll_in w c.args.i c.args.slot c.poll-answer.result sh c.self.invariant within h c.reveal_invariant.ensures in
    f.world

pub returns : goal.returns
returns g c =
    let s = c.self.inside in
    let w : Places = record { desks = s.desks.items; shards = s.shards.items; deques = s.deques.items } in
    let within : c.args.i < length s.shards.items = omega (arith, s.shards.ok.0) in
    let sh : Seating MailBook = c.poll-answer.new.self in
    let read : c.index_mut-shard.result.now ≡ shard_at s.shards.items c.args.i = get_or_read s.shards.items c.args.i c.index_mut-shard.result.now within c.index_mut-shard.ensures.value (record { seats = []; clock = 0 }) in
    let h : IsPoll mail_seen c.poll-answer.result (shard_at s.shards.items c.args.i) sh c.args.slot = subst (λ x. IsPoll mail_seen c.poll-answer.result x sh c.args.slot) read c.poll-answer.ensures in
    let f = poll_in w c.args.i c.args.slot c.poll-answer.result sh c.self.invariant within h c.reveal_invariant.ensures in
    rw (← c.self.view_is) (subst (λ d. IsWorldPoll c.args.i c.args.slot d w (with_shard w c.args.i sh)) (sym c.poll_outcome.ensures) f.poll)
