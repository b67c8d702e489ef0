use Rattle.std.proofs.Common.{◌≡◌, [], ◌∙◌, ap, sym, drop, arith, length, vec_len, vec_capacity}
use Rattle.std.proofs.lemmas.List.{length-drop}
use Rattle.queue_disc.proofs.Cuts.{list_more, rest_more}
use Rattle.queue_disc.proofs.tail.DropTail.take_into.Goals as goal
use Rattle.queue_disc.proofs.tail.DropTail.take_into.Goals.{in-Some, in_default}

pub loop-preserved : goal.loop-preserved
loop-preserved g c =
    let i = c.loop.invariant in
    let ws = c.args.self.now.waiting in
    let seen = sym (ap (λ q. q.waiting) i.1) in
    elim c.match-dequeue.branch [
      | in-Some w ↦ (
        list_more c.args.list.now.items ws _ _ c.loop.counter w.in-Some.head _ i.0
            (ap (λ v. v.items) w.list-is ∙ w.push_reserved.ensures.items) (seen ∙ w.in-Some.ensures.given),
        rest_more _ _ ws c.loop.counter _ _ i.1 w.in-Some.ensures.rest,
        omega (arith, i.2, ap vec_len w.list-is, w.push_reserved.ensures.len),
        ap vec_capacity w.list-is ∙ w.push_reserved.ensures.capacity ∙ i.3,
      )
      | in_default w ↦
          let none : drop c.loop.counter ws ≡ [] = seen ∙ w.in_default.ensures.given in
          absurd (omega (arith, length-drop c.loop.counter ws, ap length none, c.requires.enough))
    ]
