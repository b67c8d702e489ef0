use Rattle.std.proofs.Common.{ℕ, ◌++◌, ◌∷◌, [], ◌∙◌, ap, subst, sym}
use Rattle.report.specs.Lines.{heading_of}
use Rattle.control.specs.Scenario.{begun}
use Rattle.session.specs.Sessions.{KeptSession, Grows}
use Rattle.session.specs.contracts.session.Session.{the_view}
use Rattle.session.proofs.SessionFacts.{grows-begun}
use Rattle.std.proofs.Common.{refl}
use Rattle.session.specs.declared.answer.Answer.TheVariants.{Done}
use Rattle.session.specs.Effects.{IsBegun}
use Rattle.session.specs.Faults.{left_after}
use Rattle.session.proofs.session.Session.begin.Goals as goal

pub returns-clause-grows : goal.returns-clause-grows
returns-clause-grows c =
    let name = c.args.name.now in
    let h = c.in_ok-begun.ensures in
    let old : KeptSession = the_view c.self.inside in
    let new : KeptSession = record { opened = c.push.new.self.items; current = c.len-self-inside.result; left = c.left_after-self-inside.result; traces = old.traces } in (
      heading_of name,
      h.told.0,
      λ fine. subst (λ (s : KeptSession). Grows (λ es. es ++ begun name c.args.spec ∷ []) (heading_of name) s new) c.self.view_is
          (grows-begun old new c.in_ok-begun.begun (heading_of name) name c.args.spec c.in_ok-push.ensures.items (c.len-self-inside.ensures ∙ c.self.inside.open.ok.0) refl
          h.given.0 h.given.6 h.given.1 h.told.1),
    )

pub returns-clause-begins : goal.returns-clause-begins
returns-clause-begins c =
    let name = c.args.name.now in
    let h = c.in_ok-begun.ensures in
    let old : KeptSession = the_view c.self.inside in
    let new : KeptSession = record { opened = c.push.new.self.items; current = c.len-self-inside.result; left = c.left_after-self-inside.result; traces = old.traces } in
    λ fine. (
      heading_of name,
      h.told.0,
      subst (λ (s : KeptSession). IsBegun name c.args.spec (heading_of name) Done s new) c.self.view_is (record {
        opened = c.in_ok-begun.begun;
        name_is = h.given.0;
        traced_is = h.given.6;
        spec_is = h.given.1;
        state = h.begins.0;
        counts = h.begins.1;
        shows = h.begins.2;
        mine = h.begins.3;
        unclosed = h.given.4;
        adds_not = h.given.5;
        reached = h.given.2;
        phase = h.given.3;
        told = refl;
        answer = refl;
        is = λ i. record {
          opened = c.in_ok-push.ensures.items i;
          current = (c.len-self-inside.ensures ∙ c.self.inside.open.ok.0) i;
          left = (c.left_after-self-inside.ensures ∙ ap (λ (n : ℕ). left_after c.args.self.now.left n) c.steps_of-steps.ensures
              ∙ ap (λ (s : KeptSession). left_after s.left c.args.spec.budget.steps) (sym c.self.view_is)) i;
          traces = old.traces;
        };
      }),
    )
