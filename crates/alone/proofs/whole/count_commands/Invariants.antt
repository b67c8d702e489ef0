use Rattle.std.proofs.Common.{◌≡◌, length, map, take}
use Rattle.std.specs.Prelude.{sum}
use Rattle.alone.proofs.whole.count_commands.Given as goal

abbrev pub invariant-loop-script : goal.invariant-loop-script
invariant-loop-script l = record {
  counted : l.count ≡ sum (map (λ e. length e.commands) (take l.script-index l.scripts));
}
