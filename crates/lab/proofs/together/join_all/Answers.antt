use Rattle.std.proofs.Common.{◌≡◌, true}
use Rattle.lab.specs.declared.worker.Given.{Given}
use Rattle.lab.specs.Plans.{is_honest}
use Rattle.lab.proofs.Gatherings.{all_more}
use Rattle.lab.proofs.together.join_all.Goals as goal

pub loop-thread-preserved-then-is_ok : goal.loop-thread-preserved-then-is_ok
loop-thread-preserved-then-is_ok g c =
    rw (c.push_reserved.ensures.items, c.reserve.ensures.items)
    (all_more (λ (x : Given). is_honest g.G.Gate.may_refuse x.fault ≡ true) c.loop-thread.all.items c.join-given.result.given c.loop-thread.invariant c.join-given.result.honest)
