use Rattle.std.proofs.Common.{◌≡◌, ◌++◌, take}
use Rattle.std.specs.List.{filter, flat_map}
use Rattle.report.specs.Lines.{line_of}
use Rattle.session.specs.Fates.{concerns}
use Rattle.session.proofs.run.put_chosen.Given as goal

abbrev pub invariant-loop-line : goal.invariant-loop-line
invariant-loop-line l = l.report ≡ record l.initial.report { text = l.initial.report.text ++ flat_map line_of (filter (concerns l.mine) (take l.line-index l.records)) }
