use Rattle.std.proofs.Common.{refl, ap, ◌∙◌, ◌+◌, arith, drop, inl, inr, Err}
use Rattle.std.specs.Prelude.{is_some}
use Rattle.packet_store.specs.Own.{own_pocket}
use Rattle.experiment.proofs.CallerLemmas.{archived-step}
use Rattle.alone.proofs.Turns.{early, not-before, one-more, goes-on, has-ended, played-all, is-none, is-some, drop-end}
use Rattle.alone.proofs.alone.play.Goals as goal

pub loop-command-init : goal.loop-command-init
loop-command-init g c = record {
  housed = c.requires.housed;
  heading = refl;
  archived = λ h. h;
  spec = refl;
  consumed = c.requires.new.consumed;
  ending = c.requires.new.ending;
  next = c.requires.new.next;
  few = omega (arith, c.requires.new.steps);
}

pub apply-requires : goal.apply-requires
apply-requires g c = early c.args.commands.now c.loop-command.command-index c.command-item.result c.requires.in_order c.loop-command-test.true c.command-item.is

pub advance-requires-clause-housed : goal.advance-requires-clause-housed
advance-requires-clause-housed g c = c.apply.ensures.housed _ c.loop-command.invariant.housed

pub advance-requires-clause-archived : goal.advance-requires-clause-archived
advance-requires-clause-archived g c =
    let p = own_pocket c.loop-command.shelf in
    archived-step c.loop-command.report p p c.loop-command.experiment c.apply.new.self (c.loop-command.invariant.archived c.requires.archived) (λ earlier. c.apply.ensures.after earlier p)

pub loop-command-preserved : goal.loop-command-preserved
loop-command-preserved g c =
    let inv = c.loop-command.invariant in
    let put = c.in-Ok.ensures.ok in
    let moved = c.in_ok-advance.ensures in
    let ending = ap (λ o. o) (is-none c.advance.new.experiment.ending c.is_some.result c.if-is_some.false (c.is_some.ensures ∙ ap is_some c.ending.ensures)) in
    record {
      housed = moved.housed;
      heading = moved.heading ∙ inv.heading;
      archived = λ h. moved.archived (archived-step c.loop-command.report (own_pocket c.loop-command.shelf) (own_pocket c.loop-command.shelf) c.loop-command.experiment c.apply.new.self (inv.archived h)
          (λ earlier. c.apply.ensures.after earlier (own_pocket c.loop-command.shelf)));
      spec = moved.spec ∙ ap (λ e. e.spec) put ∙ inv.spec;
      consumed = moved.consumed ∙ ap (λ e. e.consumed) put ∙ one-more c.args.commands.now c.loop-command.experiment.consumed c.loop-command.command-index c.command-item.result c.loop-command-test.true c.command-item.is inv.consumed;
      ending = ending;
      next = goes-on c.advance.new.experiment (moved.at_rest (ap (λ e. e.ending) put ∙ inv.ending)) ending;
      few = moved.few;
    }

pub returns-after-loop-command : goal.returns-after-loop-command
returns-after-loop-command g c =
    let inv = c.loop-command.invariant in
    record {
      housed = inv.housed;
      heading = inv.heading;
      archived = inv.archived;
      spec = inv.spec;
      rest = drop c.loop-command.command-index c.args.commands.now;
      all = played-all c.args.commands.now c.loop-command.experiment.consumed c.loop-command.command-index inv.consumed;
      over = inr (inv.next, drop-end c.loop-command.command-index c.args.commands.now c.loop-command-test.false);
      few = inv.few;
    }

pub returns-then-is_some : goal.returns-then-is_some
returns-then-is_some g c =
    let inv = c.loop-command.invariant in
    let put = c.in-Ok.ensures.ok in
    let moved = c.in_ok-advance.ensures in
    let ended = is-some c.advance.new.experiment.ending c.is_some.result c.if-is_some.true (c.is_some.ensures ∙ ap is_some c.ending.ensures) in
    record {
      housed = moved.housed;
      heading = moved.heading ∙ inv.heading;
      archived = λ h. moved.archived (archived-step c.loop-command.report (own_pocket c.loop-command.shelf) (own_pocket c.loop-command.shelf) c.loop-command.experiment c.apply.new.self (inv.archived h)
          (λ earlier. c.apply.ensures.after earlier (own_pocket c.loop-command.shelf)));
      spec = moved.spec ∙ ap (λ e. e.spec) put ∙ inv.spec;
      rest = drop (c.loop-command.command-index + 1) c.args.commands.now;
      all = played-all c.args.commands.now c.advance.new.experiment.consumed (c.loop-command.command-index + 1) (
          moved.consumed ∙ ap (λ e. e.consumed) put ∙ one-more c.args.commands.now c.loop-command.experiment.consumed c.loop-command.command-index c.command-item.result c.loop-command-test.true c.command-item.is inv.consumed
          );
      over = inl (has-ended c.advance.new.experiment (moved.at_rest (ap (λ e. e.ending) put ∙ inv.ending)) ended);
      few = moved.few;
    }

pub unreachable-requires-in-Err-Backward : goal.unreachable-requires-in-Err-Backward
unreachable-requires-in-Err-Backward g c =
    let late = c.apply.ensures.backward (c.in-Err-Backward.is ∙ ap Err c.in-Err-Backward.field-0-is) in
    not-before c.args.commands.now c.loop-command.experiment.consumed c.loop-command.command-index c.command-item.result c.requires.in_order c.loop-command-test.true c.command-item.is c.loop-command.invariant.consumed late.2
