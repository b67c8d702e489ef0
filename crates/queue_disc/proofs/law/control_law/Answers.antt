use Rattle.std.proofs.Common.{◌+◌, ap, arith}
use Rattle.queue_disc.proofs.Roots.{control_step-is}
use Rattle.queue_disc.proofs.law.control_law.Goals as goal

pub returns-clause-law : goal.returns-clause-law
returns-clause-law c =
    ap (λ d. c.args.t + d) (control_step-is c.args.interval c.args.count c.control_step.result
    (omega arith) c.requires.some (rw c.get.ensures.value at c.control_step.ensures.step))
