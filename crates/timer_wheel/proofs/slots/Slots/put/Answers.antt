use Rattle.std.proofs.Common.{◌<◌, length, subst, sym, List, ℕ}
use Rattle.timer_wheel.proofs.SlotFacts.{put_marks}
use Rattle.timer_wheel.proofs.slots.Slots.put.Goals as goal

pub invariant_of-self : goal.invariant_of-self
invariant_of-self c =
    put_marks c.self.inside.keys c.put.new.self c.args.key c.list-was.result c.args.list c.self.inside.marks c.renew.new.marks c.renew-2.new.marks
    c.self.invariant (subst (λ (v : List ℕ). c.args.key < length v) (sym c.self.view_is) c.requires.known) c.list-was.ensures c.put.ensures
    (record { other = c.renew.ensures.other; there = c.renew.ensures.there; none = c.renew.ensures.none })
    (record { other = c.renew-2.ensures.other; there = c.renew-2.ensures.there; none = c.renew-2.ensures.none })
