use Rattle.std.proofs.Common.{ℕ, ap, sym, refl, ◌∙◌}
use Rattle.emu_model.specs.Moments.{milliseconds}
use Rattle.emu_model.specs.Delay.{enter}
use Rattle.emu_model.specs.Codel.{Dequeued}
use Rattle.pipe_core.specs.KeyedInstance.{KeyedInstance, KeyedService}
use Rattle.pipe_core.proofs.Shows.{finish-by, idle-by}
use Rattle.pipe_core.proofs.instance.Instance.finish.Goals as goal

pub invariant_of-self-2 : goal.invariant_of-self-2
invariant_of-self-2 c =
    λ none. idle-by c.self.inside.service.bw c.self.inside.service.busy c.args.now c.in-Some.key c.self.inside.queue
    (record {
      dropped = c.in_ok-dequeued.dequeued.dropped.items;
      given = c.in_ok-dequeued.dequeued.given;
      rest = c.dequeue_knowing.new.self.waiting;
      control = c.dequeue_knowing.new.self.control;
    })
    c.dequeue_knowing.new.self.waiting c.in-Some.ensures c.in_ok-dequeued.ensures.ok refl
    (ap (λ (s : KeyedService). s.busy) (sym c.follow.ensures) ∙ none)

pub returns-clause-ok : goal.returns-clause-ok
returns-clause-ok c =
    let old : KeyedInstance = record {
      queue = c.self.inside.queue;
      service = c.self.inside.service;
      delay_line = c.self.inside.line;
      draws = c.self.inside.stream;
    } in
    let d : Dequeued ℕ = record {
      dropped = c.in_ok-dequeued.dequeued.dropped.items;
      given = c.in_ok-dequeued.dequeued.given;
      rest = c.dequeue_knowing.new.self.waiting;
      control = c.dequeue_knowing.new.self.control;
    } in
    rw (← c.self.view_is) (finish-by c.args.now c.args.delay c.in-Some.key c.enter.new.self.spare old _ d c.in-Some.ensures c.in_ok-dequeued.ensures.ok
    (λ i. record {
      queue = c.in_ok-dequeued.ensures.same i;
      service = c.follow.ensures i;
      delay_line = record { line = (c.in-Ok.ensures.ok ∙ ap (λ l. enter c.in-Some.key c.args.now (milliseconds c.args.delay) l) c.in_ok-enter_ready.ensures.line) i; spare = c.enter.new.self.spare };
      draws = c.self.inside.stream;
    }))
