use Rattle.std.proofs.Common.{◌≡◌, ◌-◌}
use Rattle.timer_wheel.specs.Places.{climb, place_of}
use Rattle.timer_wheel.proofs.place.place.Given as goal

abbrev pub invariant-loop-level : goal.invariant-loop-level
invariant-loop-level l = climb (7 - l.level) l.level l.clock l.due ≡ place_of l.fn.clock l.fn.due
