use Rattle.std.proofs.Common.{◌≡◌, [], true, refl, ap, ◌∙◌, subst, sym}
use denote.Enum.Bare.{sameb}
use Rattle.session.specs.contracts.open.Open.{the_view}
use Rattle.session.specs.contracts.open.Phase.{the_type}
use Rattle.session.specs.declared.open.Phase.{Phase}
use Rattle.std.specs.Prelude.{MatchOption}
use Rattle.session.specs.declared.open.Phase.TheVariants.{Going, Over, Lost}
use Rattle.session.specs.Opens.{KeptOpen, Tells, Takes}
use Rattle.session.specs.declared.answer.Answer.TheVariants as answers
use Rattle.session.proofs.OpenFacts.{ended-by, obeyed-late, obeyed-over, obeyed-going}
use Rattle.std.proofs.Common.{ℕ, ◌≤◌, List, ◌++◌, false}
use Rattle.std.specs.Prelude.{IfNone, IfSome}
use Rattle.session.specs.declared.fates.Stop.TheVariants.{Moment}
use Rattle.session.specs.Effects.{IsPassed, Commanded, ObeysIn}
use Rattle.session.proofs.open.Open.take_as_is.Goals as goal

is_over : (p : Phase) → true ≡ sameb the_type p Over → p ≡ Over
is_over Going e = absurd (cc)
is_over Over e = refl
is_over Lost e = absurd (cc)

pub returns-then-eq-clause-told : goal.returns-then-eq-clause-told
returns-then-eq-clause-told c =
    let h = c.in_ok-taken.ensures.told in
    let over : c.self-2.inside.phase ≡ Over = is_over c.self-2.inside.phase c.if-eq.ensures in
    λ fine. (
      h.0,
      h.1,
      ended-by c.args.command.now h.0 c.args.self.now c.obey.new.self _
          (subst (λ t. MatchOption t (Tells [] h.0 c.args.self.now c.obey.new.self) (λ x. Takes c.args.command.now h.0 c.args.self.now c.obey.new.self)) c.in-Some.is h.2)
          (sym (ap (λ (o : KeptOpen). o.phase) c.self-2.view_is) ∙ over) over
          (ap (λ (o : KeptOpen). o.name) c.self-2.view_is) (ap (λ (o : KeptOpen). o.run) c.self-2.view_is),
    )

not_over : (p : Phase) → false ≡ sameb the_type p Over → p ≡ Over → ⊥
not_over Going e is = absurd (cc)
not_over Over e is = absurd (cc)
not_over Lost e is = absurd (cc)

pub returns-clause-obeys : goal.returns-clause-obeys
returns-clause-obeys c fine =
    let t = c.in-Some.taken in
    let command = c.args.command.now in
    let phase : c.args.self.now.phase ≡ Going = sym (ap (λ (o : KeptOpen). o.phase) c.self.view_is) ∙ c.in-Going.is in
    let h = subst (λ o. IfSome o (λ k. (bytes : List ℕ) × (c.obey.new.out.items ≡ c.args.out.now.items ++ bytes) × Commanded command k bytes c.args.self.now c.obey.new.self)) c.in-Some.is c.in_ok-taken.ensures.comes in (
      h.0,
      h.1,
      subst (λ p. ObeysIn p command h.0 c.answer_of.result c.args.self.now c.obey.new.self) (sym phase)
          (obeyed-going command t h.0 c.answer_of.result c.args.self.now c.obey.new.self h.2
          (λ over. not_over c.self-2.inside.phase c.if-eq.ensures (ap (λ (o : KeptOpen). o.phase) c.self-2.view_is ∙ over))
          (subst (λ o. MatchOption o (c.obey.new.self.reached ≤ command.moment) (λ x. c.obey.new.self.reached ≡ command.moment)) c.in-Some.is c.in_ok-taken.ensures.reached)
          c.in_ok-taken.ensures.open c.answer_of.ensures.value),
    )

pub returns-then-eq-clause-obeys : goal.returns-then-eq-clause-obeys
returns-then-eq-clause-obeys c fine =
    let t = c.in-Some.taken in
    let command = c.args.command.now in
    let inside = c.self-2.inside in
    let phase : c.args.self.now.phase ≡ Going = sym (ap (λ (o : KeptOpen). o.phase) c.self.view_is) ∙ c.in-Going.is in
    let over : inside.phase ≡ Over = is_over inside.phase c.if-eq.ensures in
    let h = subst (λ o. IfSome o (λ k. (bytes : List ℕ) × (c.obey.new.out.items ≡ c.args.out.now.items ++ bytes) × Commanded command k bytes c.args.self.now c.obey.new.self)) c.in-Some.is c.in_ok-taken.ensures.comes in
    let reached : c.obey.new.self.reached ≡ command.moment =
    subst (λ o. MatchOption o (c.obey.new.self.reached ≤ command.moment) (λ x. c.obey.new.self.reached ≡ command.moment)) c.in-Some.is c.in_ok-taken.ensures.reached in
    let same : inside.reached ≡ command.moment = ap (λ (o : KeptOpen). o.reached) c.self-2.view_is ∙ reached in
    let after : KeptOpen = record (the_view inside) { is_closed = c.is_end-self-inside.result } in (
      h.0,
      h.1,
      subst (λ p. ObeysIn p command h.0 (answers.Over inside.reached) c.args.self.now after) (sym phase)
          (obeyed-over command t h.0 (answers.Over inside.reached) c.args.self.now c.obey.new.self after h.2 (sym (ap (λ (o : KeptOpen). o.phase) c.self-2.view_is) ∙ over)
          (λ i. record (c.self-2.view_is i) { reached = same i; is_closed = c.is_end-self-inside.ensures i }) (ap answers.Over same)),
    )

pub returns-in_default-clause-obeys : goal.returns-in_default-clause-obeys
returns-in_default-clause-obeys c fine =
    let command = c.args.command.now in
    let phase : c.args.self.now.phase ≡ Going = sym (ap (λ (o : KeptOpen). o.phase) c.self.view_is) ∙ c.in-Going.is in
    let h = subst (λ o. IfNone o ((c.obey.new.self.phase ≡ Over) × (bytes : List ℕ) × (c.obey.new.out.items ≡ c.args.out.now.items ++ bytes) × IsPassed command.moment Moment bytes c.args.self.now c.obey.new.self)) c.in_default.is c.in_ok-taken.ensures.late in
    let after = c.pass_by-in_default.new.self in
    let said = c.pass_by-in_default.result in (
      h.1,
      h.2,
      subst (λ p. ObeysIn p command h.1 said c.args.self.now after) (sym phase)
          (obeyed-late command h.1 said c.args.self.now c.obey.new.self after h.3 h.0 c.pass_by-in_default.ensures.is c.pass_by-in_default.ensures.answer),
    )
