use Rattle.std.proofs.Common.{◌≡◌, true}
use Rattle.std.specs.Prelude.{All}
use Rattle.lab.specs.Plans.{is_honest}
use Rattle.lab.proofs.together.join_all.Given as goal

abbrev pub invariant-loop-thread : goal.invariant-loop-thread
invariant-loop-thread g l = All (λ x. is_honest g.G.Gate.may_refuse x.fault ≡ true) l.all.items
