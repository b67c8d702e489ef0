use Rattle.std.proofs.Common.{rules, refl, ap, ◌∙◌, arith}
use Rattle.packet_store.specs.Own.{own_pocket}
use Rattle.experiment.proofs.CallerLemmas.{archived-step, can_archive}
use Rattle.alone.proofs.alone.advance.Goals as goal

pub loop-experiment-init : goal.loop-experiment-init
loop-experiment-init g c = record {
  housed = c.requires.housed;
  heading = refl;
  archived = λ h. h;
  spec = refl;
  consumed = refl;
  going = λ g. g;
}

pub keep_batch-requires : goal.keep_batch-requires
keep_batch-requires g c =
    can_archive c.packets_add_up.ensures c.loop-experiment.report (own_pocket c.loop-experiment.shelf) c.loop-experiment.experiment
    c.loop-experiment.invariant.housed (c.loop-experiment.invariant.archived c.requires.archived)

pub event-requires : goal.event-requires
event-requires g c = c.in_ok-keep_batch.ensures.housed _ c.loop-experiment.invariant.housed

pub loop-experiment-smaller : goal.loop-experiment-smaller
loop-experiment-smaller g c =
    let m = c.in-Ran.ensures.makes in
    let rest = c.in_ok-keep_batch.ensures.rest in
    omega (arith, m.0.counted, c.event.ensures.steps, ap (λ s. s.budget.steps) c.event.ensures.spec, ap (λ e. e.steps) rest, ap (λ e. e.spec.budget.steps) rest)

pub loop-experiment-preserved : goal.loop-experiment-preserved
loop-experiment-preserved g c =
    let inv = c.loop-experiment.invariant in
    let batch = c.in_ok-keep_batch.ensures in
    record {
      housed = c.event.ensures.housed;
      heading = batch.heading ∙ inv.heading;
      archived = λ h. archived-step c.keep_batch.new.report (own_pocket c.loop-experiment.shelf) (own_pocket c.event.new.shelf) c.keep_batch.new.experiment c.event.new.self
          (batch.archived (own_pocket c.loop-experiment.shelf) (inv.archived h)) c.event.ensures.after;
      spec = c.event.ensures.spec ∙ ap (λ e. e.spec) batch.rest ∙ inv.spec;
      consumed = c.event.ensures.consumed ∙ ap (λ e. e.consumed) batch.rest ∙ inv.consumed;
      going = λ g. c.in-Ran.ensures.makes.1;
    }

pub returns-in-Ended : goal.returns-in-Ended
returns-in-Ended g c =
    let inv = c.loop-experiment.invariant in
    let batch = c.in_ok-keep_batch.ensures in
    record {
      at_rest = search rules;
      housed = c.event.ensures.housed;
      heading = batch.heading ∙ inv.heading;
      archived = λ h. archived-step c.keep_batch.new.report (own_pocket c.loop-experiment.shelf) (own_pocket c.event.new.shelf) c.keep_batch.new.experiment c.event.new.self
          (batch.archived (own_pocket c.loop-experiment.shelf) (inv.archived h)) c.event.ensures.after;
      spec = c.event.ensures.spec ∙ ap (λ e. e.spec) batch.rest ∙ inv.spec;
      consumed = c.event.ensures.consumed ∙ ap (λ e. e.consumed) batch.rest ∙ inv.consumed;
      few = search rules;
    }
