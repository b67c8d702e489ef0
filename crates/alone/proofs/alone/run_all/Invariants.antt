use Rattle.std.proofs.Common.{◌≡◌, map, take}
use Rattle.alone.specs.Reports.{made_alone}
use Rattle.alone.proofs.alone.run_all.Given as goal

abbrev pub invariant-loop-script : goal.invariant-loop-script
invariant-loop-script g l = record {
  done : l.reports.items ≡ map made_alone (take l.script-index l.scripts);
}
