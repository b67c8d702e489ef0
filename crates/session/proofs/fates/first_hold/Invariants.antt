use Rattle.std.proofs.Common.{◌≡◌, length}
use Rattle.session.specs.Fates.{first_hold}
use Rattle.session.proofs.fates.first_hold.Given as goal

abbrev pub invariant-loop-rest : goal.invariant-loop-rest
invariant-loop-rest l = first_hold l.mine l.stop l.rest ≡ first_hold l.mine l.stop l.records

abbrev pub decreases-loop-rest : goal.decreases-loop-rest
decreases-loop-rest l = length l.rest
