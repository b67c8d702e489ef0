use Rattle.std.proofs.Common.{ap, ◌∷◌}
use Rattle.queue_disc.specs.Queues.{IsCounted}
use Rattle.queue_disc.proofs.Counted.{IsCounted-tail}
use Rattle.queue_disc.proofs.tail.DropTail.dequeue.Goals as goal

pub invariant_of-self-2 : goal.invariant_of-self-2
invariant_of-self-2 g c =
    let was : IsCounted c.self.inside.bytes (c.in_ok-head.head ∷ c.pop_front.new.self.items) =
    rw c.in_ok-head.ensures.items at c.self.invariant.0 in
    rw (c.from.ensures, c.get.ensures.value, ap (λ w. w.size) c.head.view_is)
    (IsCounted-tail _ c.in_ok-head.head _ was, c.self.invariant.1)
