use Rattle.bench.proofs.Custodies.{pushes, less_pushed}
use Rattle.bench.proofs.deque.Deque.push.Goals as goal

pub push_as-requires-clause-pushes : goal.push_as-requires-clause-pushes
push_as-requires-clause-pushes c = rw c.args.self.now.seat (pushes _ _)

pub invariant_of-self-clause-less : goal.invariant_of-self-clause-less
invariant_of-self-clause-less c =
    less_pushed c.push_as.result _ _ c.args.parcel c.push_as.ensures.rule (λ _ h. h.0) (λ _ h. h.1) c.args.self.now.less
