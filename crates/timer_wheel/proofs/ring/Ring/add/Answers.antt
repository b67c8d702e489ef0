use Rattle.std.proofs.Common.{◌≡◌, length, arith}
use Rattle.timer_wheel.proofs.RingPut.{pushed_linked, pushed_lists}
use Rattle.timer_wheel.proofs.ring.Ring.add.Goals as goal

pub invariant_of-self-2 : goal.invariant_of-self-2
invariant_of-self-2 c =
    let at : c.len-at.result ≡ length c.self.inside.links.items = omega arith in
    pushed_linked c.self.inside.links.items c.push.new.self.items c.cross.new.links.items c.self.invariant c.args.list c.len-at.result c.requires at c.in_ok-push.ensures.items
    (record { cross = record { next_is = c.cross.ensures.next; prev_is = c.cross.ensures.prev }; list = c.cross.ensures.list; len = c.cross.ensures.len })

pub returns-clause-ok : goal.returns-clause-ok
returns-clause-ok c =
    let at : c.len-at.result ≡ length c.self.inside.links.items = omega arith in
    rw (← c.self.view_is)
    (pushed_lists c.self.inside.links.items c.push.new.self.items c.cross.new.links.items c.self.invariant c.args.list c.len-at.result c.requires at c.in_ok-push.ensures.items
    (record { cross = record { next_is = c.cross.ensures.next; prev_is = c.cross.ensures.prev }; list = c.cross.ensures.list; len = c.cross.ensures.len }))
