use Rattle.link_core.proofs.Quotients.{moved-period, moved-tells}
use Rattle.link_core.proofs.rate.Busy.with_packet.Goals as goal

pub returns-clause-period : goal.returns-clause-period
returns-clause-period c =
    rw (c.from-size.ensures, c.get.ensures.value, c.get-rate.ensures.value)
    (moved-period c.args.bw c.args.size c.args.self
    (rw c.get-rate.ensures.value at c.if-rate-eq0.false) c.requires.tells)

pub returns-clause-tells : goal.returns-clause-tells
returns-clause-tells c =
    rw (c.from-size.ensures, c.get.ensures.value, c.get-rate.ensures.value)
    (moved-tells c.args.bw c.args.size c.args.self
    (rw c.get-rate.ensures.value at c.if-rate-eq0.false)
    (rw c.get-rate.ensures.value at c.get-rate.ensures.high)
    (rw c.get.ensures.value at c.get.ensures.high) c.requires.early c.requires.tells)
