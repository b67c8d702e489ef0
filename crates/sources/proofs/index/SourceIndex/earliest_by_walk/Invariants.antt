use Rattle.std.proofs.Common.{◌≡◌, take}
use Rattle.due_index.specs.Least.{lesser}
use Rattle.due_index.proofs.CallerLemmas.{least_leaf}
use Rattle.sources.proofs.Indexes.{timers_of}
use Rattle.sources.proofs.index.SourceIndex.earliest_by_walk.Given as goal

abbrev pub invariant-loop-flow : goal.invariant-loop-flow
invariant-loop-flow l = l.best ≡ lesser l.initial.best (least_leaf (timers_of (take l.flow-index l.flows)))
