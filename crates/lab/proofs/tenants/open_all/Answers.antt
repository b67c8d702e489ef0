use Rattle.std.proofs.Common.{◌∙◌, arith}
use Rattle.lab.proofs.Servings.{serves_open}
use Rattle.lab.proofs.tenants.open_all.Goals as goal

pub loop-k-preserved : goal.loop-k-preserved
loop-k-preserved c =
    let i = c.loop-k.invariant in
    let t = c.in-Ok.ensures.tenant in (
      omega arith,
      rw (c.push_reserved.ensures.items, c.reserve.ensures.items) (serves_open c.loop-k.tenants.items c.args.scenario.now c.loop-k.k c.in-Ok.tenant c.index-scenario-k.result i.1 i.0 c.loop-k-test.true c.index-scenario-k.is (t.0 ∙ i.2) t.1 t.2),
      omega (arith, c.in-Ok.ensures.next, i.2),
    )
