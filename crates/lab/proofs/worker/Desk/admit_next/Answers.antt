use Rattle.std.proofs.Common.{refl}
use Rattle.lab.proofs.Desking.{loses_none_waiting}
use Rattle.lab.proofs.worker.Desk.admit_next.Goals as goal

pub returns-clause-ok : goal.returns-clause-ok
returns-clause-ok c =
    loses_none_waiting c.in-Some.parcel c.args.self.now _ c.admit_again.new.self (refl, refl, refl, refl) refl c.in-Some.ensures.items c.in_ok-admit_again.ensures.ok
