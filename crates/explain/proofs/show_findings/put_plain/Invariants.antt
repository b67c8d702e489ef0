use Rattle.std.proofs.Common.{◌≡◌, ◌++◌, map, take}
use Rattle.explain.specs.ShownFindings.{shown_byte}
use Rattle.explain.proofs.show_findings.put_plain.Given as goal

abbrev pub invariant-loop-byte : goal.invariant-loop-byte
invariant-loop-byte l = l.out.items ≡ l.initial.out.items ++ map shown_byte (take l.byte-index l.bytes)
