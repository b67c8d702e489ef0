use Rattle.std.proofs.Common.{◌<◌, ◌∙◌, length, get_or, ap, sym, subst, arith}
use Rattle.queue_disc.specs.Queues.{IsCounted, with_item}
use Rattle.queue_disc.proofs.Counted.{with_item-set, IsCounted-replaced}
use Rattle.queue_disc.proofs.tail.DropTail.replace.Goals as goal

pub invariant_of-self : goal.invariant_of-self
invariant_of-self g c =
    let items = c.self.inside.waiting.items in
    let at = c.args.place in
    let view = c.behind-self.view_is in
    let within : at < length items = omega (arith, c.requires, ap (λ q. length q.waiting) c.self.view_is) in
    let replaced = with_item-set items at _ c.args.item within (view ∙ c.index_mut.ensures.value ∙ ap (get_or items at) (sym view)) in (
      subst (IsCounted c.self.inside.bytes) (sym replaced)
          (IsCounted-replaced c.self.inside.bytes items at c.args.item c.self.invariant.0),
      c.self.invariant.1,
    )

pub returns : goal.returns
returns g c =
    let items = c.self.inside.waiting.items in
    let at = c.args.place in
    let view = c.behind-self.view_is in
    let within : at < length items = omega (arith, c.requires, ap (λ q. length q.waiting) c.self.view_is) in
    let replaced = with_item-set items at _ c.args.item within (view ∙ c.index_mut.ensures.value ∙ ap (get_or items at) (sym view)) in
    λ i. record {
      limit = (c.self.view_is i).limit;
      waiting = (replaced ∙ ap (λ q. with_item q.waiting at c.args.item) c.self.view_is) i;
      capacity = (c.self.view_is i).capacity;
    }
