use Rattle.std.proofs.Common.{◌≡◌, take}
use Rattle.experiment.specs.Written.{row_count}
use Rattle.experiment.proofs.rows.count_rows.Given as goal

abbrev pub invariant-loop-report : goal.invariant-loop-report
invariant-loop-report l = record {
  counted : l.rows ≡ row_count (take l.report-index l.reports);
}
