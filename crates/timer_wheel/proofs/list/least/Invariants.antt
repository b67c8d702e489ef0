use Rattle.std.proofs.Common.{◌≡◌, take}
use Rattle.std.specs.List.{best_of}
use Rattle.timer_wheel.specs.Rows.{is_before}
use Rattle.timer_wheel.proofs.list.least.Given as goal

abbrev pub invariant-loop-entry : goal.invariant-loop-entry
invariant-loop-entry l = l.least ≡ best_of is_before l.initial.least (take l.entry-index l.rest)
