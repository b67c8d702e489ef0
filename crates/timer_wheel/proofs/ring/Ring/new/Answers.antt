use Rattle.std.proofs.Common.{◌≡◌, length, arith}
use Rattle.timer_wheel.proofs.RingPut.{heads_linked}
use Rattle.timer_wheel.proofs.RingViews.{lists_none}
use Rattle.timer_wheel.proofs.ring.Ring.new.Goals as goal

pub invariant_of-result : goal.invariant_of-result
invariant_of-result c =
    let long : length c.loop-list.links.items ≡ 2051 = omega arith in
    heads_linked c.loop-list.links.items long (λ q h. c.loop-list.invariant.own q (omega arith))

pub returns : goal.returns
returns c = lists_none c.loop-list.links.items (omega arith)
