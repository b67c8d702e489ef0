use Rattle.std.proofs.lemmas.Slice.Eq.{slice_eq-Decides}
use Rattle.report.proofs.Equalities.{timed_decides}
use Rattle.bench.proofs.tenant.starts.Goals as goal

pub returns-then-first-all : goal.returns-then-first-all
returns-then-first-all c = slice_eq-Decides timed_decides _ _ _ c.eq.ensures
