use Rattle.std.proofs.Common.{arith}
use Rattle.timer_wheel.proofs.WheelFacts.{empty_wheel}
use Rattle.timer_wheel.proofs.wheel.WheelAgenda.new.Goals as goal

pub invariant_of-result : goal.invariant_of-result
invariant_of-result c = empty_wheel c.args.clock c.in_ok-new.field-0 c.in_ok-new.ensures.holds c.in_ok-new.ensures.rows c.new-2.result (rw c.new-2.ensures (λ i j d h k. absurd (omega arith)))
