use Rattle.std.proofs.Common.{◌≡◌, ℕ, ◌<◌, ◌*◌}
use Rattle.timer_wheel.specs.Marks.{mark_at}
use Rattle.timer_wheel.proofs.marks.Marks.first.Given as goal

abbrev pub invariant-loop-index : goal.invariant-loop-index
invariant-loop-index l = (q : ℕ) → q < l.index * 64 → mark_at l.self q ≡ 0
