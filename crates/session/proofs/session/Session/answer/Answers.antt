use Rattle.std.proofs.Common.{subst, sym}
use Rattle.std.specs.Prelude.{flat_map}
use Rattle.session.specs.Sessions.{Asks, told}
use Rattle.session.specs.Requests.{view_request}
use Rattle.session.proofs.SessionFacts.{if_ok}
use Rattle.session.proofs.session.Session.answer.Goals as goal

pub returns-in-Ok-clause-obeys : goal.returns-in-Ok-clause-obeys
returns-in-Ok-clause-obeys c =
    if_ok _ _ c.obey.result (λ a h fine. let t = h fine in (t.0, t.1, (view_request c.in-Ok.request, c.in-Ok.ensures.value, t.2))) c.obey.ensures.obeys

pub returns-in-Ok-clause-grows : goal.returns-in-Ok-clause-grows
returns-in-Ok-clause-grows c =
    if_ok _ _ c.obey.result
    (λ a h. (h.0, h.1, λ fine plain. subst (λ r. Asks r (flat_map told h.0) c.args.self.now c.obey.new.self) (sym c.in-Ok.ensures.value) (h.2 fine plain)))
    c.obey.ensures.grows
