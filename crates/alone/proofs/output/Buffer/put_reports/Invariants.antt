use Rattle.std.proofs.Common.{take}
use Rattle.experiment.specs.Written.{texts_of}
use Rattle.alone.specs.Bytes.{Puts}
use Rattle.alone.proofs.output.Buffer.put_reports.Given as goal

abbrev pub invariant-loop-report : goal.invariant-loop-report
invariant-loop-report g l = Puts (g.W.Outlet.contents l.initial.writer) l.initial.self (g.W.Outlet.contents l.writer) l.self (texts_of (take l.report-index l.reports))
