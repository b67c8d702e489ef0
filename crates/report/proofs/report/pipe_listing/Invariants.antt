use Rattle.std.proofs.Common.{◌≡◌, take}
use Rattle.report.specs.Lines.{pipes_of}
use Rattle.report.proofs.report.pipe_listing.Given as goal

abbrev pub invariant-loop-line : goal.invariant-loop-line
invariant-loop-line l = l.text.items ≡ pipes_of (take l.line-index l.records)
