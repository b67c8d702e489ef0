use Rattle.std.proofs.Common.{◌≡◌, ◌++◌, [], refl, ap, ◌∙◌, subst}
use Rattle.session.specs.declared.open.Phase.TheVariants.{Going}
use Rattle.session.specs.Opens.{KeptOpen, IsOpen, Tells}
use Rattle.session.specs.contracts.open.Open.{the_view}
use Rattle.std.specs.Prelude.{Result, Ok, Err, OnOk}
use Rattle.session.proofs.RunFacts.{can_write_at}
use Rattle.session.specs.Effects.{IsPassed}
use Rattle.session.proofs.OpenFacts.{passed, settled-passed}
use Rattle.session.proofs.open.Open.pass.Goals as goal

pub settle-requires-clause-writes : goal.settle-requires-clause-writes
settle-requires-clause-writes c =
    let inside = c.self.inside in
    let phase : inside.phase ≡ Going = ap (λ (o : KeptOpen). o.phase) c.self.view_is ∙ c.requires.going in
    let inv : IsOpen Going inside.reached inside.run inside.is_closed = subst (λ p. IsOpen p inside.reached inside.run inside.is_closed) phase c.self.invariant in
    let told = c.in_ok-self-inside.ensures.goes.tells inv.3 inv.4 in
    can_write_at c.packets_add_up.ensures c.in_ok-self-inside.field-0 (inv.3 ++ told.0) c.pass.new.self told.1

on_ok : {T E : Type 0} (P Q : Type 0) (r : Result T E) → (P → Q) → OnOk r P → OnOk r Q
on_ok P Q (Ok x) f h = f h
on_ok P Q (Err e) f h = h

pub returns-clause-told : goal.returns-clause-told
returns-clause-told c =
    let inside = c.self.inside in
    let phase : inside.phase ≡ Going = ap (λ (o : KeptOpen). o.phase) c.self.view_is ∙ c.requires.going in
    let inv : IsOpen Going inside.reached inside.run inside.is_closed = subst (λ p. IsOpen p inside.reached inside.run inside.is_closed) phase c.self.invariant in
    on_ok _ _ c.settle.result
    (λ h. (
      h.0,
      h.1,
      subst (λ (o : KeptOpen). Tells [] h.0 o c.settle.new.self) c.self.view_is
          (passed c.spent_runs_are_reports.ensures (the_view inside) _ c.settle.new.self h.0 h.2 phase refl inv.2 inv.1 c.in_ok-self-inside.ensures.goes),
    ))
    c.settle.ensures

pub returns-clause-passes : goal.returns-clause-passes
returns-clause-passes c =
    let inside = c.self.inside in
    let phase : inside.phase ≡ Going = ap (λ (o : KeptOpen). o.phase) c.self.view_is ∙ c.requires.going in
    let inv : IsOpen Going inside.reached inside.run inside.is_closed = subst (λ p. IsOpen p inside.reached inside.run inside.is_closed) phase c.self.invariant in
    let went = c.in_ok-self-inside.ensures in
    on_ok _ _ c.settle.result
    (λ h. (
      h.0,
      h.1,
      subst (λ (o : KeptOpen). IsPassed c.args.limit c.args.stop h.0 o c.settle.new.self) c.self.view_is
          (settled-passed (the_view inside) _ c.settle.new.self h.0 c.args.limit c.args.stop h.2 refl inv.1 refl went.stops went.goes went.quiet went.whole (went.goes.tells inv.3 inv.4).1.proper),
    ))
    c.settle.ensures
