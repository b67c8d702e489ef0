use Rattle.std.proofs.Common.{append_assoc, arith}
use Rattle.report.proofs.words.append_mask.Goals as goal

pub returns : goal.returns
returns c =
    record {
      items =
          rw (
            c.append_places-5.ensures.items,
            c.append-4.ensures.items,
            c.append_places-4.ensures.items,
            c.append-3.ensures.items,
            c.append_places-3.ensures.items,
            c.append-2.ensures.items,
            c.append_places-2.ensures.items,
            c.append.ensures.items,
            c.append_places.ensures.items,
          )
          (simp append_assoc cc);
      room = omega arith;
      capacity = omega arith;
    }
