use Rattle.std.proofs.Common.{◌≡◌, ◌+◌, suc, sym, ap, subst, ◌∙◌, arith}
use Rattle.std.specs.Prelude.{slice_index_or}
use Rattle.emu_model.specs.declared.records.Record.TheVariants.{StepsSpent}
use Rattle.report.specs.Archive.{IsArrival, arrived_as}
use Rattle.report.proofs.WholeRecords.{if_some, pair_entries}
use Rattle.report.proofs.made.Firsts.pair_of.Goals as goal

pub returns-clause-same : goal.returns-clause-same
returns-clause-same c =
    let os = c.args.others.now in
    let p = c.in_ok-parts.parts in
    let e = c.in_ok-parts.ensures in
    let lookup = c.in_ok-known.ensures.lookup.3 in
    let at : suc p.tag ≡ c.from.result + 1 = omega (arith, c.from.ensures) in
    let known : slice_index_or os (suc p.tag) (StepsSpent 0) ≡ c.in_ok-known.known.now =
    ap (λ k. slice_index_or os k (StepsSpent 0)) at ∙ sym (lookup.1 (StepsSpent 0)) in
    let arrived = c.is_arrival_as.ensures c.if-not-is_arrival_as.false in
    if_some c.pack.result
    (λ w is. (pair_entries os w p c.args.entry.now c.args.next.now is e.1 (omega (arith, at, lookup.0))
    (subst IsArrival (sym known) arrived.0) e.2 (ap (λ r. arrived_as r p) known ∙ arrived.1)).0)
    c.pack.ensures
