use Rattle.std.proofs.lemmas.Slice.Eq.{slice_eq-Decides}
use Rattle.report.proofs.Equalities.{timed_decides}
use Rattle.bench.proofs.tenant.matches_posted.Goals as goal

pub returns-in-Ended : goal.returns-in-Ended
returns-in-Ended c = rw c.in-Ended.is (slice_eq-Decides timed_decides _ _ _ c.eq.ensures)
