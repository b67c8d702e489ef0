use Rattle.std.proofs.Common.{append_assoc}
use Rattle.report.proofs.lines.write_heading.Goals as goal

pub returns-clause-ok : goal.returns-clause-ok
returns-clause-ok c =
    rw (
      c.append-3.ensures.items,
      c.append-2.ensures.items,
      c.append.ensures.items,
      c.reserve.ensures.items,
    )
    (simp append_assoc)
