use Rattle.std.proofs.Common.{[], refl, subst}
use Rattle.bench.specs.declared.bench.OfferError.{OfferError}
use Rattle.bench.specs.Benches.{OfferFails}
use Rattle.lab.proofs.Desking.{loses_none_again}
use Rattle.lab.proofs.worker.Desk.offer.Goals as goal

pub returns-in-Err-DequeFull-clause-ok : goal.returns-in-Err-DequeFull-clause-ok
returns-in-Err-DequeFull-clause-ok c =
    let fails = subst (λ (e : OfferError). OfferFails e c.args.slot c.args.self.now.bench c.offer.new.self) c.in-Err-DequeFull.field-0-is c.in-Err-DequeFull.ensures.err in
    loses_none_again c.in-Err-DequeFull.parcel [] c.args.self.now _ c.admit_again.new.self fails.2 refl refl c.in_ok-admit_again-in-Err-DequeFull.ensures.ok
