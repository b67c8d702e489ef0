use Rattle.std.proofs.Common.{◌≡◌, ◌++◌, ◌∷◌, [], ℕ, sym, ap, ◌∙◌, subst}
use Rattle.alone.specs.Talks.{KeptTalk, GoesOn, counted}
use Rattle.alone.specs.contracts.talk.Talk.{the_view}
use Rattle.alone.proofs.talk.Talk.end_line.Goals as goal

pub returns-clause-hears : goal.returns-clause-hears
returns-clause-hears g c =
    let h = c.in_ok-end_uncounted.ensures.hears in
    let t : KeptTalk = the_view c.self.inside in
    let next : KeptTalk = record t { lines = c.saturating_add-self-inside.result } in
    let same : counted c.end_uncounted.new.self ≡ next = ap counted (sym c.self.view_is) ∙ ap (λ (n : ℕ). record t { lines = n }) (sym c.saturating_add-self-inside.ensures) in (
      h.0,
      ap (λ (k : KeptTalk). k.out) c.self.view_is ∙ h.1,
      subst (λ (u : KeptTalk). GoesOn (g.H.Hints.may_say c.args.hints.now) (c.args.rest.now ++ 10 ∷ []) h.0 c.args.self.now u) same h.2,
    )
