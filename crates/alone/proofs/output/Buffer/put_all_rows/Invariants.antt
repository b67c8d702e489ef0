use Rattle.std.proofs.Common.{◌≡◌, length, take}
use Rattle.experiment.specs.Written.{rows_from}
use Rattle.alone.specs.Bytes.{Puts}
use Rattle.alone.proofs.output.Buffer.put_all_rows.Given as goal

abbrev pub invariant-loop-number : goal.invariant-loop-number
invariant-loop-number g l = record {
  page : length l.page ≡ length l.initial.page;
  puts : Puts (g.W.Outlet.contents l.initial.writer) l.initial.self (g.W.Outlet.contents l.writer) l.self (rows_from 0 (take l.number l.reports));
}
