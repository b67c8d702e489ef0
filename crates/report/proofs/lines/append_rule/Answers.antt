use Rattle.std.proofs.Common.{append_assoc, arith}
use Rattle.report.proofs.lines.append_rule.Goals as goal

pub returns : goal.returns
returns c =
    record {
      items =
          rw (
            c.append_end-2.ensures.items,
            c.append-5.ensures.items,
            c.append_end.ensures.items,
            c.append-4.ensures.items,
            c.append_protocol.ensures.items,
            c.append-3.ensures.items,
            c.append_action.ensures.items,
            c.append-2.ensures.items,
            c.append_labelled-2.ensures.items,
            c.append_labelled.ensures.items,
            c.append_places.ensures.items,
            c.append.ensures.items,
          )
          (simp append_assoc cc);
      room = omega arith;
      capacity = omega arith;
    }
