use Rattle.std.proofs.Common.{◌≡◌, [], false, sym, ap, ◌∙◌}
use Rattle.std.proofs.lemmas.List.{nil_from_length}
use Rattle.std.proofs.lemmas.Bool.Decides.{Decides-eqb}
use Rattle.alone.specs.Talks.{KeptTalk}
use Rattle.alone.proofs.Talking.{said-line}
use Rattle.alone.proofs.talk.Talk.end_uncounted.Goals as goal

pub returns-then-not-self-clause-hears : goal.returns-then-not-self-clause-hears
returns-then-not-self-clause-hears g c =
    let part = c.self.inside.part in
    let none : part.items ≡ [] = nil_from_length part.items (sym part.ok.0 ∙ (Decides-eqb part.len 0).0 (sym c.if-is_empty.ensures)) in
    said-line (g.H.Hints.may_say c.args.hints.now) c.args.rest.now c.args.self.now c.answer.new.self c.answer.result c.requires
    (sym (ap (λ (t : KeptTalk). t.part) c.self.view_is) ∙ none) (sym (ap (λ (t : KeptTalk). t.is_skipping) c.self.view_is) ∙ c.if-not-self.true)
    c.answer.ensures.replies c.answer.ensures.same
