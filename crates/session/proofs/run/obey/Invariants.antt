use Rattle.std.proofs.Common.{◌≡◌, ◌-◌, List, []}
use Rattle.emu_model.specs.declared.records.Record.{Record}
use Rattle.packet_store.specs.Own.{own_pocket}
use Rattle.emu_model.specs.Step.{step}
use Rattle.experiment.specs.Kept.{view, IsHousedIn, IsAloneAfter}
use Rattle.session.specs.Runs.{IsProper}
use Rattle.session.proofs.run.obey.Given as goal

abbrev pub invariant-loop-experiment : goal.invariant-loop-experiment
invariant-loop-experiment l = record {
  housed : IsHousedIn (own_pocket l.shelf) l.experiment;
  proper : IsProper l.experiment;
  after : (earlier : List Record) → IsAloneAfter earlier (own_pocket l.initial.shelf) l.initial.experiment → IsAloneAfter earlier (own_pocket l.shelf) l.experiment;
  spec : l.experiment.spec ≡ l.initial.experiment.spec;
  consumed : l.experiment.consumed ≡ l.initial.experiment.consumed;
  first : (step (view (own_pocket l.initial.shelf) l.initial.experiment)).left ≡ [] →
      view (own_pocket l.shelf) l.experiment ≡ view (own_pocket l.initial.shelf) l.initial.experiment;
}

abbrev pub decreases-loop-experiment : goal.decreases-loop-experiment
decreases-loop-experiment l = l.experiment.spec.budget.steps - l.experiment.steps
