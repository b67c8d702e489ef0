use Rattle.std.proofs.Common.{arith}
use Rattle.lab.proofs.Servings.{serves_step}
use Rattle.lab.proofs.tenants.serve_all.Goals as goal

pub returns-in_err-serve_one-clause-serves : goal.returns-in_err-serve_one-clause-serves
returns-in_err-serve_one-clause-serves c = serves_step c.loop-k.tenants c.args.scenario.now c.loop-k.k c.index-tenants-k.result c.serve_one.new.tenant c.index-scenario-k.result c.loop-k.invariant (omega arith) (omega arith) c.serve_one.ensures.same (rw c.index-scenario-k.is at c.serve_one.ensures.posted)

pub loop-k-preserved : goal.loop-k-preserved
loop-k-preserved c = serves_step c.loop-k.tenants c.args.scenario.now c.loop-k.k c.index-tenants-k.result c.serve_one.new.tenant c.index-scenario-k.result c.loop-k.invariant (omega arith) (omega arith) c.serve_one.ensures.same (rw c.index-scenario-k.is at c.serve_one.ensures.posted)
