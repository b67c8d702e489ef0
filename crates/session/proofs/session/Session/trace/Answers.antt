use Rattle.std.proofs.Common.{[], refl, subst}
use Rattle.std.specs.Prelude.{Ok}
use Rattle.session.specs.Sessions.{KeptSession, Asks}
use Rattle.session.specs.contracts.session.Session.{the_view}
use Rattle.session.specs.declared.answer.Answer.TheVariants.{Done}
use Rattle.session.specs.Effects.{Obeys}
use Rattle.session.specs.Requests.{Trace}
use Rattle.session.proofs.SessionFacts.{asks-trace}
use Rattle.session.proofs.session.Session.trace.Goals as goal

pub returns-clause-asks : goal.returns-clause-asks
returns-clause-asks c =
    let old : KeptSession = the_view c.self.inside in
    let new : KeptSession = record old { traces = c.args.on } in
    subst (λ (s : KeptSession). Asks (Ok (Trace c.args.on)) [] s new) c.self.view_is (asks-trace c.args.on old new refl)

pub returns-clause-traces : goal.returns-clause-traces
returns-clause-traces c =
    let old : KeptSession = the_view c.self.inside in
    let new : KeptSession = record old { traces = c.args.on } in
    subst (λ (s : KeptSession). Obeys (Trace c.args.on) [] Done s new) c.self.view_is (refl, refl, refl)
