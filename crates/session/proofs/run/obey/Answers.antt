use Rattle.std.proofs.Common.{sym, ap, ◌∙◌}
use Rattle.emu_model.specs.Step.{step}
use Rattle.packet_store.specs.Own.{own_pocket}
use Rattle.experiment.specs.Kept.{view}
use Rattle.session.proofs.RunFacts.{not_ended, none-next, no-still}
use Rattle.session.proofs.run.obey.Goals as goal

pub loop-experiment-preserved : goal.loop-experiment-preserved
loop-experiment-preserved c =
    let was = c.loop-experiment.invariant in
    let made = c.in-Ran.ensures in
    let old = c.loop-experiment.experiment in
    let new = c.event.new.self in
    record {
      housed = made.housed;
      proper = record { few = made.steps; ends = not_ended new made.makes.1 };
      after = λ earlier alone. made.after earlier (was.after earlier alone);
      spec = made.spec ∙ was.spec;
      consumed = made.consumed ∙ was.consumed;
      first = λ left. absurd (none-next (own_pocket c.event.new.shelf) new (step (view (own_pocket c.args.shelf.now) c.args.experiment.now))
          (made.makes.0.stepped ∙ ap step (was.first left)) left (sym c.has_next.ensures ∙ c.if-not-has_next.false));
    }

pub returns-in-Ended-clause-once : goal.returns-in-Ended-clause-once
returns-in-Ended-clause-once c going some left = c.in-Ended.ensures.makes.0.stepped ∙ ap step (c.loop-experiment.invariant.first left)

pub returns-in-Still-clause-once : goal.returns-in-Still-clause-once
returns-in-Still-clause-once c going some left =
    let was = c.loop-experiment.invariant in
    absurd (no-still (own_pocket c.loop-experiment.shelf) (own_pocket c.args.shelf.now) c.loop-experiment.experiment c.args.experiment.now (was.first left) was.proper going some
    c.in-Still.ensures.makes.2)

pub returns-then-not-has_next-clause-once : goal.returns-then-not-has_next-clause-once
returns-then-not-has_next-clause-once c going some left = c.in-Ran.ensures.makes.0.stepped ∙ ap step (c.loop-experiment.invariant.first left)
