use Rattle.timer_wheel.proofs.PlaceAnew.{IsPlacing}
use Rattle.timer_wheel.proofs.wheel.place_anew.Given as goal

abbrev pub invariant-loop-key : goal.invariant-loop-key
invariant-loop-key l = IsPlacing l.fn.stock l.stock l.key
