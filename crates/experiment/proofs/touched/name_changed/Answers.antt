use Rattle.std.proofs.Common.{rules}
use Rattle.experiment.proofs.TouchFacts.{nothing, gone_next, come_next}
use Rattle.experiment.proofs.touched.name_changed.Goals as goal

pub loop-i-2-preserved : goal.loop-i-2-preserved
loop-i-2-preserved c = record {
  in_old = search rules;
  in_new = search rules;
  names =
      rw c.push_reserved.ensures.items
      (gone_next c.loop-i-2.i c.loop-i.j c.args.old.now c.args.new.now nothing c.loop-i-2.sources.items c.loop-i-2-test.true c.loop-i-2.invariant.names);
  room = search rules;
  capacity = search rules;
}

pub loop-j-preserved : goal.loop-j-preserved
loop-j-preserved c = record {
  all_old = search rules;
  in_new = search rules;
  names =
      rw c.push_reserved-in-loop-j.ensures.items
      (come_next c.loop-i-2.i c.loop-j.j c.args.old.now c.args.new.now nothing c.loop-j.sources.items c.loop-j-test.true c.loop-j.invariant.names);
  room = search rules;
  capacity = search rules;
}
