use Rattle.std.proofs.Common.{arith}
use Rattle.timer_wheel.proofs.RingFirst.{first_some, first_within, first_none}
use Rattle.timer_wheel.proofs.ring.Ring.first.Goals as goal

pub returns-then-behind-lt-LISTS-clause-none : goal.returns-then-behind-lt-LISTS-clause-none
returns-then-behind-lt-LISTS-clause-none c =
    rw (← c.self.view_is) (first_none c.self.inside.links.items c.self.invariant c.args.list c.next-behind.result c.requires c.next-behind.ensures (omega arith))

pub returns-clause-some : goal.returns-clause-some
returns-clause-some c =
    rw (← c.self.view_is) (first_some c.self.inside.links.items c.self.invariant c.args.list c.next-behind.result c.requires c.next-behind.ensures (omega arith))

pub returns-clause-within : goal.returns-clause-within
returns-clause-within c =
    rw (← c.self.view_is) (first_within c.self.inside.links.items c.self.invariant c.args.list c.next-behind.result c.requires c.next-behind.ensures (omega arith))
