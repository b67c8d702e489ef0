use Rattle.std.proofs.Common.{◌≡◌}
use Rattle.sources.specs.declared.index.SourceIndex.{SourceIndex}
use Rattle.sources.specs.Leaves.{AreTold}
use Rattle.sources.proofs.Timers.{late}
use Rattle.sources.proofs.index.SourceIndex.settle.Given as goal

abbrev rest_is : SourceIndex → SourceIndex → Type 0
rest_is x y = x ≡ record y { timers = x.timers }

abbrev pub invariant-telling : goal.invariant-telling
invariant-telling l = record {
  told : AreTold l.self.timers.leaves l.flows;
  rest : rest_is l.self l.initial.self;
}

abbrev pub decreases-telling : goal.decreases-telling
decreases-telling l = late l.self.timers.leaves l.flows
