use Rattle.alone.proofs.JoinedReports.{reports_join_by}
use Rattle.alone.proofs.joining_law.reports_join.Goals as goal

pub returns : goal.returns
returns c = reports_join_by c.texts_part.ensures
