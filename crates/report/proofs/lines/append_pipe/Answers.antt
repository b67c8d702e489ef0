use Rattle.std.proofs.Common.{append_assoc, arith}
use Rattle.report.proofs.lines.append_pipe.Goals as goal

pub returns : goal.returns
returns c =
    record {
      items =
          rw (
            c.append_discipline.ensures.items,
            c.append-3.ensures.items,
            c.append_mask.ensures.items,
            c.append-2.ensures.items,
            c.append_labelled-4.ensures.items,
            c.append_queue.ensures.items,
            c.append.ensures.items,
            c.append_labelled-3.ensures.items,
            c.append_labelled-2.ensures.items,
            c.append_labelled.ensures.items,
          )
          (simp append_assoc cc);
      room = omega arith;
      capacity = omega arith;
    }
