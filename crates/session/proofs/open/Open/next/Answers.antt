use Rattle.std.proofs.Common.{sym, refl, subst}
use Rattle.session.specs.declared.answer.Answer.TheVariants as answers
use Rattle.session.specs.Opens.{KeptOpen}
use Rattle.session.specs.Effects.{NextIn}
use Rattle.session.specs.contracts.open.Open.{the_view}
use Rattle.session.proofs.OpenFacts.{next-is}
use Rattle.session.proofs.open.Open.next.Goals as goal

pub returns-in-Going : goal.returns-in-Going
returns-in-Going c =
    subst (λ (o : KeptOpen). NextIn o.phase (answers.Next c.next_moment.result) o) c.self.view_is
    (subst (λ p. NextIn p (answers.Next c.next_moment.result) (the_view c.self.inside)) (sym c.in-Going.is)
    (c.next_moment.result, refl, next-is (the_view c.self.inside) c.next_moment.result c.next_moment.ensures.some c.next_moment.ensures.none))
