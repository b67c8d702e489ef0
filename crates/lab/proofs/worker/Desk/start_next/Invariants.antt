use Rattle.lab.specs.Desks.{LosesNone}
use Rattle.lab.proofs.worker.Desk.start_next.Given as goal

abbrev pub invariant-loop : goal.invariant-loop
invariant-loop l = LosesNone l.fn.self l.self
