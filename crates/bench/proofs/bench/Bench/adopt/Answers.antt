use Rattle.std.proofs.Common.{rules, ◌∙◌}
use Rattle.bench.proofs.Moves.{adopted_kept, passed_kept, sits_from, back_from, stays}
use Rattle.bench.proofs.Seatings.{comes_in}
use Rattle.bench.proofs.bench.Bench.adopt.Goals as goal

pub invariant_of-self-clause-kept : goal.invariant_of-self-clause-kept
invariant_of-self-clause-kept c = adopted_kept c.make_room.new.self c.name-name.result _ _ c.push_reserved.ensures.items c.push_reserved-in-Ok.ensures.items

pub invariant_of-self-clause-sits : goal.invariant_of-self-clause-sits
invariant_of-self-clause-sits c =
    comes_in c.make_room.new.self.resident.items c.push_reserved-in-Ok.new.self.items c.name-name.result c.in-Success.parcel c.make_room.new.self.shard c.take_in.new.self c.in-Ok._slot c.in-Ok.ensures.ok.0
    c.make_room.new.self.sits c.in-Ok.ensures.ok.1 c.name-name.ensures c.push_reserved-in-Ok.ensures.items

pub returns-in-Ok-clause-ok : goal.returns-in-Ok-clause-ok
returns-in-Ok-clause-ok c =
    let same = c.make_room.ensures.same.0 in (
      c.in-Success.parcel,
      sits_from c.in-Success.parcel c.make_room.new.self c.args.self.now c.take_in.new.self c.in-Ok._slot c.in-Ok.ensures.ok.0 same c.in-Ok.ensures.ok.1,
      c.in-Success.ensures,
      same.1,
      search rules,
    )

pub invariant_of-self-in-Err-clause-kept : goal.invariant_of-self-in-Err-clause-kept
invariant_of-self-in-Err-clause-kept c = passed_kept c.make_room.new.self c.name-name.result _ _ c.push_reserved-in-Err.ensures.items c.push_reserved-in-Err-2.ensures.items

pub invariant_of-self-in-Err-clause-sits : goal.invariant_of-self-in-Err-clause-sits
invariant_of-self-in-Err-clause-sits c = stays c.make_room.new.self.resident.items c.make_room.new.self.shard c.take_in.new.self c.make_room.new.self.sits c.in-Err.ensures.err

pub returns-in-Err-clause-err : goal.returns-in-Err-clause-err
returns-in-Err-clause-err c =
    let same = c.make_room.ensures.same.0 in (
      c.in-Success.parcel,
      back_from c.in-Success.parcel c.make_room.new.self c.args.self.now c.in-Err.refused same c.in-Err.ensures.back,
      c.in-Err.ensures.err ∙ same.0,
      c.in-Success.ensures,
      same.1,
      search rules,
    )
