use Rattle.std.proofs.Common.{◌≡◌, List, None, subst, rules}
use Rattle.bench.specs.declared.closing.Closing.{Closing}
use Rattle.bench.specs.Audits.{Accounted}
use Rattle.lab.proofs.Concludings.{unsettled_concludes, lost_concludes, found_concludes}
use Rattle.lab.proofs.together.finish.Goals as goal

pub returns-in_err-outcomes-clause-concludes : goal.returns-in_err-outcomes-clause-concludes
returns-in_err-outcomes-clause-concludes c cs ds fs holds =
    let none : c.args.joined.fault ≡ None = search rules in
    let it = unsettled_concludes c.args.tenants.items c.in_err-outcomes.field-0.0 c.args.joined.fault c.args.joined.dossiers.items c.args.joined.closings.items cs ds fs none c.in_err-outcomes.ensures.err holds in
    search (rules, it)

pub returns-in-Ok-clause-concludes : goal.returns-in-Ok-clause-concludes
returns-in-Ok-clause-concludes c cs ds fs holds =
    let none : c.args.joined.fault ≡ None = search rules in
    found_concludes c.args.tenants.items c.args.joined.fault c.args.joined.dossiers.items c.args.joined.closings.items cs ds fs none
    (λ x. subst (λ (l : List Closing). Accounted l x) c.as_slice.ensures.value (c.in-Ok.ensures.ok x)) holds

pub returns-clause-concludes : goal.returns-clause-concludes
returns-clause-concludes c cs ds fs holds =
    let none : c.args.joined.fault ≡ None = search rules in
    lost_concludes c.args.tenants.items c.args.joined.fault c.args.joined.dossiers.items c.args.joined.closings.items cs ds fs c.in-Err.field-0.0 none
    (subst (λ (l : List Closing). ¬ Accounted l c.in-Err.field-0.0) c.as_slice.ensures.value c.in-Err.ensures.lost.0) holds
