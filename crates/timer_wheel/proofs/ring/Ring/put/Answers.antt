use Rattle.std.proofs.Common.{arith}
use Rattle.timer_wheel.proofs.RingViews.{key_in}
use Rattle.timer_wheel.proofs.RingPut.{after_c, put_linked, put_lists}
use Rattle.timer_wheel.proofs.ring.Ring.put.Goals as goal

pub overflow_add-at : goal.overflow_add-at
overflow_add-at c = omega (arith, key_in c.self.inside.links.items c.args.self.now c.args.key c.self.view_is c.requires.known)

pub prev-before-requires : goal.prev-before-requires
prev-before-requires c = omega (arith, key_in c.self.inside.links.items c.args.self.now c.args.key c.self.view_is c.requires.known)

pub cross-requires-clause-b_in : goal.cross-requires-clause-b_in
cross-requires-clause-b_in c = omega (arith, key_in c.self.inside.links.items c.args.self.now c.args.key c.self.view_is c.requires.known)

pub set_list-requires : goal.set_list-requires
set_list-requires c = omega (arith, key_in c.self.inside.links.items c.args.self.now c.args.key c.self.view_is c.requires.known)

pub cross-requires-2-clause-b_in : goal.cross-requires-2-clause-b_in
cross-requires-2-clause-b_in c = omega (arith, key_in c.self.inside.links.items c.args.self.now c.args.key c.self.view_is c.requires.known)

pub cross-requires-2-clause-after_a : goal.cross-requires-2-clause-after_a
cross-requires-2-clause-after_a c =
    after_c c.self.inside.links.items c.cross.new.links.items c.set_list.new.links.items c.self.invariant c.args.key c.args.list c.prev-before.result
    (key_in c.self.inside.links.items c.args.self.now c.args.key c.self.view_is c.requires.known) c.requires.list c.prev-before.ensures
    (record { cross = record { next_is = c.cross.ensures.next; prev_is = c.cross.ensures.prev }; list = c.cross.ensures.list; len = c.cross.ensures.len })
    (record { next = c.set_list.ensures.next; prev = c.set_list.ensures.prev; list = c.set_list.ensures.list; len = c.set_list.ensures.len })

pub invariant_of-self : goal.invariant_of-self
invariant_of-self c =
    put_linked c.self.inside.links.items c.cross.new.links.items c.set_list.new.links.items c.self.invariant c.args.key c.args.list c.prev-before.result
    (key_in c.self.inside.links.items c.args.self.now c.args.key c.self.view_is c.requires.known) c.requires.list c.prev-before.ensures
    (record { cross = record { next_is = c.cross.ensures.next; prev_is = c.cross.ensures.prev }; list = c.cross.ensures.list; len = c.cross.ensures.len })
    (record { next = c.set_list.ensures.next; prev = c.set_list.ensures.prev; list = c.set_list.ensures.list; len = c.set_list.ensures.len })
    c.cross-2.new.links.items
    (record { cross = record { next_is = c.cross-2.ensures.next; prev_is = c.cross-2.ensures.prev }; list = c.cross-2.ensures.list; len = c.cross-2.ensures.len })

pub returns : goal.returns
returns c =
    rw (← c.self.view_is)
    (put_lists c.self.inside.links.items c.cross.new.links.items c.set_list.new.links.items c.self.invariant c.args.key c.args.list c.prev-before.result
    (key_in c.self.inside.links.items c.args.self.now c.args.key c.self.view_is c.requires.known) c.requires.list c.prev-before.ensures
    (record { cross = record { next_is = c.cross.ensures.next; prev_is = c.cross.ensures.prev }; list = c.cross.ensures.list; len = c.cross.ensures.len })
    (record { next = c.set_list.ensures.next; prev = c.set_list.ensures.prev; list = c.set_list.ensures.list; len = c.set_list.ensures.len })
    c.cross-2.new.links.items
    (record { cross = record { next_is = c.cross-2.ensures.next; prev_is = c.cross-2.ensures.prev }; list = c.cross-2.ensures.list; len = c.cross-2.ensures.len }))
