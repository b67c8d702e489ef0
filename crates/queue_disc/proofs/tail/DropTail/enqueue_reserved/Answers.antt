use Rattle.std.proofs.Common.{◌≤◌, ◌∙◌, ap, arith}
use Rattle.emu_model.specs.DropTail.{accepts}
use Rattle.queue_disc.proofs.Counted.{IsCounted-push, accepted-few}
use Rattle.queue_disc.proofs.tail.DropTail.enqueue_reserved.Goals as goal

pub invariant_of-self : goal.invariant_of-self
invariant_of-self g c =
    let small : c.args.size ≤ 1500 = omega arith in
    rw (c.push_back_reserved.ensures.items, c.from.ensures, c.get.ensures.value) (
      IsCounted-push _ _ (record { item = c.args.item; size = c.args.size; stamp = c.args.now })
          c.self.invariant.0 small
          (accepted-few c.self.inside.bytes c.self.inside.waiting.items c.self.inside.limit c.args.size c.self.invariant.0 c.self.invariant.1 small
          (ap (λ q. accepts q.limit q.waiting c.args.size) c.self.view_is ∙ c.requires.accepted)),
      c.self.invariant.1,
    )
