use Rattle.std.proofs.Common.{List, ◌≡◌, ◌-◌, ◌≤◌}
use Rattle.session.specs.declared.fates.Stop.TheVariants.{Moment}
use Rattle.emu_model.specs.declared.records.Record.{Record}
use Rattle.session.specs.Runs.{Goes}
use Rattle.session.specs.Stops.{way_of}
use Rattle.session.proofs.StopFacts.{Leads}
use Rattle.session.proofs.run.Run.pass.Given as goal

abbrev pub invariant-loop-self : goal.invariant-loop-self
invariant-loop-self l = record {
  goes : Goes l.from l.reached l.initial.self l.self;
  since : l.from ≤ l.reached;
  on : l.reached ≤ l.last;
  within : l.last ≤ l.limit;
  leads : (earlier : List Record) → Leads (way_of l.initial.self.mine l.fn.stop l.from l.limit) l.initial.self (way_of l.self.mine l.until l.reached l.last) l.self earlier;
  whole : l.fn.stop ≡ Moment → (l.until ≡ Moment) × (l.last ≡ l.limit);
}

abbrev pub decreases-loop-self : goal.decreases-loop-self
decreases-loop-self l = l.self.experiment.spec.budget.steps - l.self.experiment.steps
