use Rattle.std.proofs.Common.{◌≡◌, ℕ, ◌+◌, [], ◌∷◌, drop, refl, sym, ap, ◌∙◌, arith, subst}
use Rattle.std.proofs.lemmas.List.{drop_more, drop_all}
use Rattle.world.specs.Runs.{Runs}
use Rattle.world.proofs.world.World.run.Goals as goal

pub loop-step-preserved : goal.loop-step-preserved
loop-step-preserved g c =
    let steps = c.args.steps.now in
    let at : ℕ = c.loop-step.step-index in
    let one = c.step-item.result in
    let k : ℕ = c.refusals-refused.result in
    let next : drop at steps ≡ one ∷ drop (at + 1) steps = drop_more steps at one (omega arith) ∙ ap (λ x. x ∷ drop (at + 1) steps) (sym c.step-item.is) in
    record {
      few = omega (arith, c.refusals-refused.ensures.few, c.loop-step.invariant.few);
      goes_on = λ n new rest.
          let sum : c.loop-step.refused + (k + n) ≡ (c.loop-step.refused + k) + n = omega arith in
          subst (λ m. Runs steps m c.args.self.now new) sum (c.loop-step.invariant.goes_on (k + n) new (subst (λ l. Runs l (k + n) c.loop-step.self new) (sym next) (c.step-did.result, c.step-did.new.self, n, c.step-did.ensures.case, rest, ap (λ x. x + n) c.refusals-refused.ensures.value)));
    }

pub returns-clause-runs : goal.returns-clause-runs
returns-clause-runs g c =
    let all : drop c.loop-step.step-index c.args.steps.now ≡ [] = drop_all c.loop-step.step-index c.args.steps.now (omega arith) in
    let sum : c.loop-step.refused + 0 ≡ c.loop-step.refused = omega arith in
    subst (λ m. Runs c.args.steps.now m c.args.self.now c.loop-step.self) sum (c.loop-step.invariant.goes_on 0 c.loop-step.self (subst (λ l. Runs l 0 c.loop-step.self c.loop-step.self) (sym all) (refl, refl)))
