use Rattle.std.proofs.Common.{◌≡◌, take}
use Rattle.report.specs.Lines.{rules_of}
use Rattle.report.proofs.report.rule_listing.Given as goal

abbrev pub invariant-loop-line : goal.invariant-loop-line
invariant-loop-line l = l.text.items ≡ rules_of (take l.line-index l.records)
