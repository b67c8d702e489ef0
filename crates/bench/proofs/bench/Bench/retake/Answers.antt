use Rattle.std.proofs.Common.{rules, ◌∙◌}
use Rattle.bench.specs.Ends.{deque_view}
use Rattle.bench.proofs.Moves.{retaken_kept, returned_kept, sits_from, takes_from, back_from, stays}
use Rattle.bench.proofs.Seatings.{comes_in}
use Rattle.bench.proofs.bench.Bench.retake.Goals as goal

pub invariant_of-self-in-Ok-clause-kept : goal.invariant_of-self-in-Ok-clause-kept
invariant_of-self-in-Ok-clause-kept c =
    retaken_kept c.make_room.new.self c.name-name.result c.in-Some.parcel c.name-name.ensures (deque_view c.pop.new.self) _ c.in-Some.ensures.taken.0 c.push_reserved.ensures.items

pub invariant_of-self-in-Ok-clause-sits : goal.invariant_of-self-in-Ok-clause-sits
invariant_of-self-in-Ok-clause-sits c =
    comes_in c.make_room.new.self.resident.items c.push_reserved.new.self.items c.name-name.result c.in-Some.parcel c.make_room.new.self.shard c.take_back.new.self c.in-Ok._slot c.in-Ok.ensures.ok.0
    c.make_room.new.self.sits c.in-Ok.ensures.ok.1 c.name-name.ensures c.push_reserved.ensures.items

pub returns-in-Ok-clause-ok : goal.returns-in-Ok-clause-ok
returns-in-Ok-clause-ok c =
    let same = c.make_room.ensures.same.0 in (
      c.in-Some.parcel,
      sits_from c.in-Some.parcel c.make_room.new.self c.args.self.now c.take_back.new.self c.in-Ok._slot c.in-Ok.ensures.ok.0 same c.in-Ok.ensures.ok.1,
      takes_from c.in-Some.parcel c.make_room.new.self c.args.self.now (deque_view c.pop.new.self) same c.in-Some.ensures.taken.0,
      same.2,
    )

pub invariant_of-self-in-Err-clause-kept : goal.invariant_of-self-in-Err-clause-kept
invariant_of-self-in-Err-clause-kept c =
    returned_kept c.make_room.new.self c.name-name.result c.in-Some.parcel c.name-name.ensures (deque_view c.pop.new.self) _ c.in-Some.ensures.taken.0 c.push_reserved-in-Err.ensures.items

pub invariant_of-self-in-Err-clause-sits : goal.invariant_of-self-in-Err-clause-sits
invariant_of-self-in-Err-clause-sits c = stays c.make_room.new.self.resident.items c.make_room.new.self.shard c.take_back.new.self c.make_room.new.self.sits c.in-Err.ensures.err

pub returns-in-Err-clause-err : goal.returns-in-Err-clause-err
returns-in-Err-clause-err c =
    let same = c.make_room.ensures.same.0 in (
      c.in-Some.parcel,
      back_from c.in-Some.parcel c.make_room.new.self c.args.self.now c.in-Err.refused same c.in-Err.ensures.back,
      c.in-Err.ensures.err ∙ same.0,
      takes_from c.in-Some.parcel c.make_room.new.self c.args.self.now (deque_view c.pop.new.self) same c.in-Some.ensures.taken.0,
      search rules,
    )
