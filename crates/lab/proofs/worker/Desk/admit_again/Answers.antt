use Rattle.std.proofs.Common.{refl}
use Rattle.lab.proofs.Desking.{readmits}
use Rattle.lab.proofs.worker.Desk.admit_again.Goals as goal

pub returns-clause-ok : goal.returns-clause-ok
returns-clause-ok c = readmits c.args.parcel c.args.self.now _ c.in-Ok.ensures.ok refl refl
