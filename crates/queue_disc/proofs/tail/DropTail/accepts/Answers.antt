use Rattle.std.proofs.Common.{arith}
use Rattle.std.proofs.lemmas.Bool.{ltb-true}
use Rattle.queue_disc.proofs.Counted.{bytes_of-le}
use Rattle.queue_disc.proofs.tail.DropTail.accepts.Goals as goal

pub returns-in-Slots-clause-few : goal.returns-in-Slots-clause-few
returns-in-Slots-clause-few g c =
    let v = c.self.invariant.0 in
    let le = bytes_of-le _ v.sizes in
    rw (← c.self.view_is) (λ t. omega (arith, ltb-true _ _ t, c.self.inside.waiting.ok.0))
