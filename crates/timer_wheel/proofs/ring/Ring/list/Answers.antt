use Rattle.std.proofs.Common.{arith, Some, sym, ap, ◌∙◌}
use Rattle.timer_wheel.proofs.RingViews.{get_lists, key_in}
use Rattle.timer_wheel.proofs.ring.Ring.list.Goals as goal

pub overflow_add-key : goal.overflow_add-key
overflow_add-key c = omega (arith, key_in c.self.inside.links.items c.args.self.now c.args.key c.self.view_is c.requires)

pub list-requires : goal.list-requires
list-requires c = omega (arith, key_in c.self.inside.links.items c.args.self.now c.args.key c.self.view_is c.requires)

pub returns : goal.returns
returns c =
    rw (← c.self.view_is)
    (get_lists c.self.inside.links.items c.args.key (key_in c.self.inside.links.items c.args.self.now c.args.key c.self.view_is c.requires) ∙ ap Some (sym c.list.ensures))
