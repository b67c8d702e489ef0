use Rattle.std.proofs.Common.{rules}
use Rattle.bench.proofs.Moves.{admitted_kept, sits_from}
use Rattle.bench.proofs.Seatings.{comes_in}
use Rattle.bench.proofs.bench.Bench.admit.Goals as goal

pub invariant_of-self-clause-kept : goal.invariant_of-self-clause-kept
invariant_of-self-clause-kept c = admitted_kept c.make_room.new.self c.name-name.result _ _ c.push_reserved.ensures.items c.push_reserved-in-Ok.ensures.items

pub invariant_of-self-clause-sits : goal.invariant_of-self-clause-sits
invariant_of-self-clause-sits c =
    comes_in c.make_room.new.self.resident.items c.push_reserved-in-Ok.new.self.items c.name-name.result c.args.parcel c.make_room.new.self.shard c.take_in.new.self c.in-Ok._slot c.in-Ok.ensures.ok.0
    c.make_room.new.self.sits c.in-Ok.ensures.ok.1 c.name-name.ensures c.push_reserved-in-Ok.ensures.items

pub returns-in-Ok-clause-ok : goal.returns-in-Ok-clause-ok
returns-in-Ok-clause-ok c = (
  sits_from c.args.parcel c.make_room.new.self c.args.self.now c.take_in.new.self c.in-Ok._slot c.in-Ok.ensures.ok.0 c.make_room.ensures.same.0 c.in-Ok.ensures.ok.1,
  c.make_room.ensures.same.0.1,
  search rules,
)
