use Rattle.std.proofs.Common.{◌≡◌, sym, ◌∙◌}
use Rattle.timer_wheel.specs.Rings.{next_of, prev_of}
use Rattle.timer_wheel.proofs.RingFirst.{alone_there}
use Rattle.timer_wheel.proofs.ring.Ring.is_alone.Goals as goal

pub returns : goal.returns
returns c =
    let single : next_of c.self.inside.links.items c.args.list ≡ prev_of c.self.inside.links.items c.args.list = sym c.next-behind.ensures ∙ c.if-behind-before.false ∙ c.prev-before.ensures in
    λ yes. rw (← c.self.view_is) (alone_there c.self.inside.links.items c.self.invariant c.args.list c.requires single)
