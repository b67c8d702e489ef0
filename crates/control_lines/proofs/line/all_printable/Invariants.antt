use Rattle.std.proofs.Common.{◌≡◌, take}
use Rattle.std.specs.List.{list_all}
use Rattle.control_lines.specs.Entries.{is_printable}
use Rattle.control_lines.proofs.line.all_printable.Given as goal

abbrev pub invariant-loop-c : goal.invariant-loop-c
invariant-loop-c l = l.all ≡ list_all is_printable (take l.c-index l.line)
