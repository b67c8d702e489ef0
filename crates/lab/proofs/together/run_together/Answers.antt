use Rattle.std.proofs.Common.{◌≡◌, All, true, rules}
use Rattle.lab.specs.declared.worker.Given.{Given}
use Rattle.lab.specs.Joins.{closings_of, dossiers_of, faults_of}
use Rattle.lab.specs.Plans.{is_honest}
use Rattle.lab.proofs.Concludings.{together_err, gate_refuses}
use Rattle.lab.proofs.together.run_together.Goals as goal

pub returns-clause-err : goal.returns-clause-err
returns-clause-err g c =
    let given = c.scoped-tenants.result.1.items in
    let honest : All (λ (x : Given). is_honest g.G.Gate.may_refuse x.fault ≡ true) given = search rules in
    together_err g.G.Gate.may_refuse c.in_ok-tenants-2.tenants.items (closings_of given) (dossiers_of given) (faults_of given) c.conclude.result
    (gate_refuses g.G.Gate.may_refuse given honest) c.conclude.ensures.concludes
