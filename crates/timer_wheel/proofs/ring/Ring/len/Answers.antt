use Rattle.std.proofs.Common.{arith}
use Rattle.timer_wheel.proofs.RingViews.{length_lists}
use Rattle.timer_wheel.proofs.ring.Ring.len.Goals as goal

pub returns : goal.returns
returns c = rw (← c.self.view_is) (omega (arith, length_lists c.self.inside.links.items))
