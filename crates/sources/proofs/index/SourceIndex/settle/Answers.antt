use Rattle.std.proofs.Common.{◌<◌, sym, ◌∙◌, ap, subst, arith}
use Rattle.due_index.specs.Places.{Places}
use Rattle.sources.specs.declared.index.SourceIndex.{SourceIndex}
use Rattle.sources.specs.Leaves.{AreTold}
use Rattle.sources.proofs.Timers.{late, late_less, told_length, told_settled}
use Rattle.sources.proofs.index.SourceIndex.settle.Goals as goal

pub set-requires : goal.set-requires
set-requires c =
    let within = c.in-Some.ensures.early.within in
    omega (arith, within, told_length c.telling.self.timers.leaves c.args.flows.now c.telling.invariant.told)

pub telling-smaller : goal.telling-smaller
telling-smaller c =
    let os = c.telling.self.timers.leaves in
    let fs = c.args.flows.now in
    let f = c.index-flows-place.result in
    let e = ap (λ (p : Places). p.leaves) c.set.ensures in
    let early = c.in-Some.ensures.early in
    subst (λ xs. late xs fs < late os fs) (sym e)
    (late_less os fs c.in-Some.place f c.timer.result c.telling.invariant.told early.within c.index-flows-place.is
    c.timer.ensures (λ same. early.differs f c.index-flows-place.is (sym c.timer.ensures ∙ same)))

pub telling-preserved : goal.telling-preserved
telling-preserved c =
    let os = c.telling.self.timers.leaves in
    let fs = c.args.flows.now in
    let e = ap (λ (p : Places). p.leaves) c.set.ensures in
    record {
      told = subst (λ xs. AreTold xs fs) (sym e)
          (told_settled os fs c.in-Some.place c.index-flows-place.result c.timer.result c.telling.invariant.told
          c.index-flows-place.is c.timer.ensures);
      rest = ap (λ (x : SourceIndex). record x { timers = c.set.new.self }) c.telling.invariant.rest;
    }
