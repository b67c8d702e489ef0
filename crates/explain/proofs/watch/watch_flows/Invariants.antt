use Rattle.std.proofs.Common.{◌≡◌, ℕ, ◌-◌, ◌≤◌, None, length, drop}
use Rattle.std.specs.Prelude.{slice_index_or}
use Rattle.explain.specs.Watch.{watched}
use Rattle.explain.proofs.watch.watch_flows.Given as goal

-- what is left, behind what was noted so far, is all
abbrev pub invariant-loop-entry : goal.invariant-loop-entry
invariant-loop-entry l = record {
  same : (n : ℕ) → watched l.commands n l.reader (slice_index_or l.watches.items n None) ≡ watched l.commands n l.records None;
}

abbrev pub decreases-loop-entry : goal.decreases-loop-entry
decreases-loop-entry l = length l.reader
