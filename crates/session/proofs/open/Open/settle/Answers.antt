use Rattle.std.proofs.Common.{◌≡◌, ◌++◌, Option, Some, None, false, refl, ap, ◌∙◌, sym, subst, arith}
use Rattle.std.specs.Prelude.{is_some}
use Rattle.session.specs.Opens.{KeptOpen}
use Rattle.session.specs.Runs.{KeptRun, IsAt}
use Rattle.session.proofs.RunFacts.{at-written, at-handed}
use Rattle.session.proofs.open.Open.settle.Goals as goal

is_none : {A : Type 0} (o : Option A) → is_some o ≡ false → o ≡ None
is_none None e = refl
is_none (Some x) e = absurd (cc)

pub invariant_of-self-2 : goal.invariant_of-self-2
invariant_of-self-2 c =
    let before : KeptRun = c.self.inside.run in
    let after : KeptRun = c.write.new.self in
    let f = c.in_ok-write.ensures in
    let ran : before ≡ c.args.self.now.run = ap (λ (o : KeptOpen). o.run) c.self.view_is in
    let none : after.experiment.ending ≡ None =
    is_none after.experiment.ending (sym (ap is_some c.ending.ensures) ∙ sym c.is_some.ensures ∙ c.if-is_some.false) in
    let going : c.args.self.now.run.experiment.ending ≡ None =
    ap (λ (r : KeptRun). r.experiment.ending) (sym ran) ∙ sym (ap (λ e. e.ending) f.experiment) ∙ none in
    let at = c.requires.at going in
    let there : IsAt c.self.inside.reached at.0 before =
    subst (λ (r : KeptRun). IsAt c.self.inside.reached at.0 r) (sym ran)
    (subst (λ t. IsAt t at.0 c.args.self.now.run) (sym (ap (λ (o : KeptOpen). o.reached) c.self.view_is)) at.1) in
    let handed = c.in_ok-hand_out-2.ensures.ok.1 in
    let same = ap (λ (o : KeptOpen). o.reached) c.self.view_is in (
      omega (arith, same, c.requires.early),
      ap (λ (r : KeptRun). r.report.text) handed,
      ap (λ (o : KeptOpen). o.is_closed) c.self.view_is ∙ c.requires.open,
      at.0 ++ before.experiment.net.log.records,
      at-handed c.self.inside.reached (at.0 ++ before.experiment.net.log.records) after c.hand_out-2.new.self
          (at-written c.self.inside.reached at.0 before after there f) handed,
    )
