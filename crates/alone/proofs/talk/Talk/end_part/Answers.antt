use Rattle.std.proofs.Common.{◌≡◌, ℕ, List, [], ◌∷◌, ◌++◌, true, false, sym, ap, ◌∙◌, refl, subst}
use Rattle.alone.specs.Talks.{KeptTalk, GoesOn, counted}
use Rattle.alone.specs.contracts.talk.Talk.{the_view}
use Rattle.alone.proofs.Talking.{said-part, said-past}
use Rattle.alone.proofs.talk.Talk.end_part.Goals as goal

pub returns-then-self-clause-hears : goal.returns-then-self-clause-hears
returns-then-self-clause-hears g c =
    let h = c.in_ok-add.ensures.hears in
    let hinting = g.H.Hints.may_say c.args.hints.now in
    let rest : List ℕ = c.args.rest.now in
    let t : KeptTalk = the_view c.self.inside in (
      h.0,
      ap (λ (t : KeptTalk). t.out) c.self.view_is ∙ h.1,
      said-past hinting rest h.0 c.args.self.now t (record t { is_skipping = false }) (subst (λ (u : KeptTalk). GoesOn hinting rest h.0 c.args.self.now u) (sym c.self.view_is) h.2) c.if-self.true refl,
    )

pub returns-clause-hears : goal.returns-clause-hears
returns-clause-hears g c =
    let h = c.in_ok-add.ensures.hears in
    let takes : c.add.new.self.is_skipping ≡ false = sym (ap (λ (t : KeptTalk). t.is_skipping) c.self.view_is) ∙ c.if-self.false in
    said-part (g.H.Hints.may_say c.args.hints.now) c.args.rest.now h.0 c.args.self.now c.add.new.self c.answer_part.new.self c.answer_part.result h.1 h.2 takes
    c.answer_part.ensures.replies c.answer_part.ensures.part c.answer_part.ensures.same
