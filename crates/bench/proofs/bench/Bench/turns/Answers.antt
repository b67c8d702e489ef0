use Rattle.std.proofs.Common.{◌<◌, length, sym, ◌∙◌, arith}
use Rattle.bench.proofs.Moves.{ended_kept}
use Rattle.bench.proofs.Seatings.{ended_there, ends, some_times, ran_seated, idle_seated}
use Rattle.bench.proofs.bench.Bench.turns.Goals as goal

pub push_reserved-requires : goal.push_reserved-requires
push_reserved-requires g c =
    let d = c.in-Ended.dossier in
    let names = c.args.self.now.resident.items in
    let some : 0 < length names = some_times d.name names (ended_there names d g.W.Watch.may_refuse c.args.more c.in-Ended.ensures.0 c.args.self.now.shard c.turns.new.self c.args.self.now.sits c.in-Ended.ensures.4) in
    omega arith

pub remove_one-requires : goal.remove_one-requires
remove_one-requires g c = record {
  there = rw c.name-name.ensures (ended_there c.args.self.now.resident.items c.in-Ended.dossier g.W.Watch.may_refuse c.args.more c.in-Ended.ensures.0 c.args.self.now.shard c.turns.new.self c.args.self.now.sits c.in-Ended.ensures.4);
}

pub invariant_of-self-clause-kept : goal.invariant_of-self-clause-kept
invariant_of-self-clause-kept g c = ended_kept c.args.self.now c.name-name.result c.push_reserved.new.self.items c.remove_one.new.names.items c.push_reserved.ensures.items c.remove_one.ensures.others

pub invariant_of-self-clause-sits : goal.invariant_of-self-clause-sits
invariant_of-self-clause-sits g c =
    ends c.args.self.now.resident.items c.remove_one.new.names.items c.name-name.result c.in-Ended.dossier g.W.Watch.may_refuse c.args.more c.in-Ended.ensures.0 c.args.self.now.shard c.turns.new.self
    c.args.self.now.sits c.in-Ended.ensures.4 c.name-name.ensures c.remove_one.ensures.others

pub invariant_of-self-in-Ran-1 : goal.invariant_of-self-in-Ran-1
invariant_of-self-in-Ran-1 g c = record {
  kept = c.args.self.now.kept;
  sits = λ x. c.args.self.now.sits x ∙ sym (ran_seated x c.in-Ran.name g.W.Watch.may_refuse c.args.more c.in-Ran.ensures.0 c.args.self.now.shard c.turns.new.self c.in-Ran.ensures.4);
  room_ended = c.args.self.now.room_ended;
  counted = c.args.self.now.counted;
  room_left = c.args.self.now.room_left;
}

pub invariant_of-self-in-Idle : goal.invariant_of-self-in-Idle
invariant_of-self-in-Idle g c = record {
  kept = c.args.self.now.kept;
  sits = λ x. c.args.self.now.sits x ∙ sym (idle_seated x g.W.Watch.may_refuse c.args.more c.in-Idle.ensures.0 _ _ c.in-Idle.ensures.4);
  room_ended = c.args.self.now.room_ended;
  counted = c.args.self.now.counted;
  room_left = c.args.self.now.room_left;
}
