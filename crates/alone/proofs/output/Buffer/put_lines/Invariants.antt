use Rattle.std.proofs.Common.{◌≡◌, ◌-◌, ◌≤◌, drop, length, take}
use Rattle.std.specs.Prelude.{flat_map}
use Rattle.report.specs.Lines.{line_of}
use Rattle.alone.specs.Bytes.{Puts}
use Rattle.alone.proofs.output.Buffer.put_lines.Given as goal

abbrev pub invariant-loop-done : goal.invariant-loop-done
invariant-loop-done g l = record {
  done : l.done ≤ length l.records;
  left : l.reader ≡ drop l.done l.records;
  puts : Puts (g.W.Outlet.contents l.initial.writer) l.initial.self (g.W.Outlet.contents l.writer) l.self (flat_map line_of (take l.done l.records));
}

abbrev pub decreases-loop-done : goal.decreases-loop-done
decreases-loop-done g l = length l.records - l.done
