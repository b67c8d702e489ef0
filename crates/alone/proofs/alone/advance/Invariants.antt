use Rattle.std.proofs.Common.{◌≡◌, ◌-◌, ℕ, List, None}
use Rattle.packet_store.specs.Own.{own_pocket}
use Rattle.experiment.specs.Kept.{IsHousedIn}
use Rattle.experiment.specs.Written.{IsArchived}
use Rattle.alone.proofs.alone.advance.Given as goal

abbrev pub invariant-loop-experiment : goal.invariant-loop-experiment
invariant-loop-experiment g l = record {
  housed : IsHousedIn (own_pocket l.shelf) l.experiment;
  heading : l.report.heading ≡ l.initial.report.heading;
  archived : IsArchived l.initial.report (own_pocket l.initial.shelf) l.initial.experiment → IsArchived l.report (own_pocket l.shelf) l.experiment;
  spec : l.experiment.spec ≡ l.initial.experiment.spec;
  consumed : l.experiment.consumed ≡ l.initial.experiment.consumed;
  going : l.initial.experiment.ending ≡ None → l.experiment.ending ≡ None;
}

abbrev pub decreases-loop-experiment : goal.decreases-loop-experiment
decreases-loop-experiment g l = l.experiment.spec.budget.steps - l.experiment.steps
