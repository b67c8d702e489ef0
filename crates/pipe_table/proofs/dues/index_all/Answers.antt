use Rattle.std.proofs.Common.{◌-◌, ap, subst, arith}
use Rattle.std.proofs.lemmas.List.{take_all}
use Rattle.due_index.specs.Places.{Places}
use Rattle.pipe_table.specs.Leaves.{AreIndexed}
use Rattle.pipe_table.proofs.Indexes.{indexed-none, indexed-more}
use Rattle.pipe_table.proofs.dues.index_all.Goals as goal

pub loop-pipe-init : goal.loop-pipe-init
loop-pipe-init c = record {
  indexed = indexed-none c.clear.new.self c.clear.ensures.leaves;
  room = omega (arith, c.clear.ensures.spare, c.requires);
}

pub loop-pipe-preserved : goal.loop-pipe-preserved
loop-pipe-preserved c = record {
  indexed =
      indexed-more c.args.pipes.now c.loop-pipe.pipe-index (c.loop-pipe.dues.spare - 1)
      c.pipe-item.result
      c.loop-pipe.dues c.push.new.self c.least.result c.loop-pipe.invariant.indexed (omega arith)
      c.pipe-item.is
      c.least.ensures.due c.least.ensures.number c.least.ensures.few c.push.ensures;
  room = omega (arith, ap (λ (p : Places). p.spare) c.push.ensures, c.loop-pipe.invariant.room);
}

pub returns : goal.returns
returns c =
    let ps = c.args.pipes.now in
    subst (λ qs. AreIndexed qs c.loop-pipe.dues) (take_all c.loop-pipe.pipe-index ps (omega arith))
    c.loop-pipe.invariant.indexed
