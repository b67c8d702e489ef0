use Rattle.lab.specs.Desks.{LosesNone}
use Rattle.lab.proofs.worker.Desk.work_all.Given as goal

abbrev pub invariant-loop : goal.invariant-loop
invariant-loop g l = LosesNone l.fn.self l.self
