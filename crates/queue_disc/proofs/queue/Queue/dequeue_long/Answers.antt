use Rattle.std.proofs.Common.{◌++◌, ◌∙◌, ap, take}
use Rattle.emu_model.proofs.CallerLemmas.{dequeue-cut}
use Rattle.queue_disc.proofs.Cuts.{dropped-le, taken-is}
use Rattle.queue_disc.proofs.queue.Queue.dequeue_long.Goals as goal

pub take_into-requires-clause-enough : goal.take_into-requires-clause-enough
take_into-requires-clause-enough g c =
    rw c.plan_drops-drops.ensures (dropped-le _ _ (dequeue-cut _ _ _ _))

pub returns-clause-ok : goal.returns-clause-ok
returns-clause-ok g c =
    let t = c.take_into.ensures in
    rw (← c.self.view_is)
    (taken-is _ _ _ _ _ _ _ c.take_into.new.self.waiting (dequeue-cut _ _ _ _)
    (ap (λ v. v.drops) c.plan_drops-drops.ensures) (ap (λ v. v.control) c.plan_drops-drops.ensures)
    (t.taken ∙ ap (λ xs. xs ++ take c.plan_drops-drops.result.drops c.self.inside.tail.waiting) c.in_ok-dropped.ensures.items)
    (ap (λ q. q.waiting) t.rest) c.dequeue-given.ensures.given
    (ap (λ q. q.waiting) c.dequeue-given.ensures.rest))
