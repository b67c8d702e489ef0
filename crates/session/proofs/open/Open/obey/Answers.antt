use Rattle.std.proofs.Common.{true, false, sym, ◌≡◌, ◌++◌, [], refl, ap, ◌∙◌, subst}
use Rattle.session.specs.declared.open.Phase.TheVariants.{Going}
use Rattle.session.specs.Opens.{KeptOpen, IsOpen, Tells, Takes}
use Rattle.session.specs.contracts.open.Open.{the_view}
use Rattle.session.proofs.OpenFacts.{passed, took}
use Rattle.std.specs.Prelude.{Option, Some, None, is_some}
use Rattle.session.specs.Runs.{KeptRun, IsQuiet}
use Rattle.session.proofs.RunFacts.{can_write_at}
use Rattle.session.specs.declared.fates.Stop.TheVariants.{Moment}
use Rattle.session.specs.Stops.{StopsAt}
use Rattle.experiment.specs.Kept.{KeptExperiment, shown_ending}
use Rattle.session.specs.Effects.{IsPassed, Commanded}
use Rattle.session.proofs.OpenFacts.{settled-passed, settled-done}
use Rattle.session.proofs.open.Open.obey.Goals as goal

pub settle-requires-clause-writes : goal.settle-requires-clause-writes
settle-requires-clause-writes c =
    let inside = c.self.inside in
    let phase : inside.phase ≡ Going = ap (λ (o : KeptOpen). o.phase) c.self.view_is ∙ c.requires.going in
    let inv : IsOpen Going inside.reached inside.run inside.is_closed = subst (λ p. IsOpen p inside.reached inside.run inside.is_closed) phase c.self.invariant in
    let told = c.in_ok-self-inside.ensures.goes.tells inv.3 inv.4 in
    can_write_at c.packets_add_up.ensures c.in_ok-self-inside.field-0 (inv.3 ++ told.0) c.pass.new.self told.1

pub settle-requires-2-clause-housed : goal.settle-requires-2-clause-housed
settle-requires-2-clause-housed c =
    let inside = c.self.inside in
    let phase : inside.phase ≡ Going = ap (λ (o : KeptOpen). o.phase) c.self.view_is ∙ c.requires.going in
    let inv : IsOpen Going inside.reached inside.run inside.is_closed = subst (λ p. IsOpen p inside.reached inside.run inside.is_closed) phase c.self.invariant in
    let told = c.in_ok-self-inside.ensures.goes.tells inv.3 inv.4 in
    (c.in_ok-taken.ensures.takes.after c.in_ok-self-inside.field-0 (inv.3 ++ told.0) told.1 c.in_ok-self-inside.ensures.between.1).housed

pub returns-then-is_some-clause-told : goal.returns-then-is_some-clause-told
returns-then-is_some-clause-told c =
    let inside = c.self.inside in
    let phase : inside.phase ≡ Going = ap (λ (o : KeptOpen). o.phase) c.self.view_is ∙ c.requires.going in
    let inv : IsOpen Going inside.reached inside.run inside.is_closed = subst (λ p. IsOpen p inside.reached inside.run inside.is_closed) phase c.self.invariant in
    let h = c.in_ok-settle.ensures in (
      h.0,
      h.1,
      subst (λ (o : KeptOpen). Tells [] h.0 o c.settle.new.self) c.self.view_is
          (passed c.spent_runs_are_reports.ensures (the_view inside) _ c.settle.new.self h.0 h.2 phase refl inv.2 inv.1 c.in_ok-self-inside.ensures.goes),
    )

pub returns-clause-told : goal.returns-clause-told
returns-clause-told c =
    let inside = c.self.inside in
    let phase : inside.phase ≡ Going = ap (λ (o : KeptOpen). o.phase) c.self.view_is ∙ c.requires.going in
    let inv : IsOpen Going inside.reached inside.run inside.is_closed = subst (λ p. IsOpen p inside.reached inside.run inside.is_closed) phase c.self.invariant in
    let h = c.in_ok-settle-2.ensures in (
      h.0,
      h.1,
      subst (λ (o : KeptOpen). Takes c.args.command.now h.0 o c.settle-2.new.self) c.self.view_is
          (took c.ended_runs_are_reports.ensures (the_view inside) _ c.settle-2.new.self c.pass.new.self c.in_ok-self-inside.field-0 c.args.command.now h.0 h.2 phase refl inv.2 inv.1
          c.in_ok-self-inside.ensures.goes c.in_ok-self-inside.ensures.between.1 c.in_ok-taken.ensures.takes refl),
    )

is_none : {A : Type 0} (o : Option A) → is_some o ≡ false → o ≡ None
is_none None e = refl
is_none (Some x) e = absurd (cc)

pub returns-clause-comes : goal.returns-clause-comes
returns-clause-comes c =
    let inside = c.self.inside in
    let phase : inside.phase ≡ Going = ap (λ (o : KeptOpen). o.phase) c.self.view_is ∙ c.requires.going in
    let inv : IsOpen Going inside.reached inside.run inside.is_closed = subst (λ p. IsOpen p inside.reached inside.run inside.is_closed) phase c.self.invariant in
    let before : KeptRun = c.pass.new.self in
    let passed = c.in_ok-self-inside.ensures in
    let none : before.experiment.ending ≡ None =
    is_none before.experiment.ending (sym (ap is_some c.ending.ensures) ∙ sym c.is_some.ensures ∙ c.if-is_some.false) in
    let all = passed.whole none refl in
    let told = passed.goes.tells inv.3 inv.4 in
    let quiet : IsQuiet c.args.command.now.moment before = subst (λ u. IsQuiet u before) all (passed.quiet none) in
    let h = c.in_ok-settle-2.ensures in (
      h.0,
      h.1,
      subst (λ (o : KeptOpen). Commanded c.args.command.now c.in_ok-taken.taken h.0 o c.settle-2.new.self) c.self.view_is
          (settled-done (the_view inside) _ c.settle-2.new.self h.0 c.args.command.now c.in_ok-taken.taken before h.2 refl inv.1
          (subst (λ u. StopsAt Moment inside.reached c.args.command.now.moment u inside.run before) all passed.stops)
          (record { shows = passed.goes.shows; mine = passed.goes.mine })
          (record {
            going = ap shown_ending none;
            quiet = quiet;
            steps = c.in_ok-taken.ensures.steps quiet;
            takes = c.in_ok-taken.ensures.takes;
            marks = c.in_ok-taken.ensures.marked;
            taken = c.in_ok-taken.ensures.taken;
          }) refl (c.in_ok-taken.ensures.takes.after c.in_ok-self-inside.field-0 (inv.3 ++ told.0) told.1 c.in_ok-self-inside.ensures.between.1).proper),
    )

pub returns-then-is_some-clause-late : goal.returns-then-is_some-clause-late
returns-then-is_some-clause-late c =
    let inside = c.self.inside in
    let phase : inside.phase ≡ Going = ap (λ (o : KeptOpen). o.phase) c.self.view_is ∙ c.requires.going in
    let inv : IsOpen Going inside.reached inside.run inside.is_closed = subst (λ p. IsOpen p inside.reached inside.run inside.is_closed) phase c.self.invariant in
    let before : KeptRun = c.pass.new.self in
    let went = c.in_ok-self-inside.ensures in
    let some : is_some before.experiment.ending ≡ true = sym (ap is_some c.ending.ensures) ∙ sym c.is_some.ensures ∙ c.if-is_some.true in
    let h = c.in_ok-settle.ensures in (
      h.2.ends (ap (λ (e : KeptExperiment). is_some e.ending) h.2.forgets.experiment ∙ some),
      h.0,
      h.1,
      subst (λ (o : KeptOpen). IsPassed c.args.command.now.moment Moment h.0 o c.settle.new.self) c.self.view_is
          (settled-passed (the_view inside) _ c.settle.new.self h.0 c.args.command.now.moment Moment h.2 refl inv.1 refl went.stops went.goes went.quiet went.whole
          (went.goes.tells inv.3 inv.4).1.proper),
    )
