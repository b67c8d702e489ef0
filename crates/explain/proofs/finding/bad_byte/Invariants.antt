use Rattle.std.proofs.Common.{◌≡◌, ◌+◌, drop}
use Rattle.std.specs.List.{prefix_len}
use Rattle.control_lines.specs.Entries.{is_printable}
use Rattle.explain.proofs.finding.bad_byte.Given as goal

abbrev pub invariant-loop-start : goal.invariant-loop-start
invariant-loop-start l = l.start + prefix_len is_printable (drop l.start l.line) ≡ prefix_len is_printable l.line
