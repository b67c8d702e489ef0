use Rattle.std.proofs.Common.{◌≡◌, ◌≤◌, ℕ, List, None, take}
use Rattle.packet_store.specs.Own.{own_pocket}
use Rattle.experiment.specs.Kept.{IsHousedIn}
use Rattle.experiment.specs.Written.{IsArchived}
use Rattle.alone.proofs.alone.play.Given as goal

abbrev pub invariant-loop-command : goal.invariant-loop-command
invariant-loop-command g l = record {
  housed : IsHousedIn (own_pocket l.shelf) l.experiment;
  heading : l.report.heading ≡ l.initial.report.heading;
  archived : IsArchived l.initial.report (own_pocket l.initial.shelf) l.initial.experiment → IsArchived l.report (own_pocket l.shelf) l.experiment;
  spec : l.experiment.spec ≡ l.initial.experiment.spec;
  consumed : l.experiment.consumed ≡ take l.command-index l.commands;
  ending : l.experiment.ending ≡ None;
  next : l.experiment.next ≡ None;
  few : l.experiment.steps ≤ l.experiment.spec.budget.steps;
}
