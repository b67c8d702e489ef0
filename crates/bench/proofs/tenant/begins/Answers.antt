use Rattle.std.proofs.Common.{◌≡◌, length, take, sym, ap, ◌∙◌, refl, arith}
use Rattle.std.proofs.Math.Seq.{take-length}
use Rattle.bench.proofs.Beginnings.{there, not_there, begins_more, begins_there}
use Rattle.report.proofs.Equalities.{news_decides}
use Rattle.bench.proofs.tenant.begins.Goals as goal

pub returns-then-ne : goal.returns-then-ne
returns-then-ne c = (
  λ e. absurd (cc),
  λ h. absurd (not_there _ news_decides c.record.result c.index-first-place.result (sym c.ne.ensures ∙ c.if-ne.true)
      (c.record.ensures ∙ begins_there c.args.dossier.now.records c.args.first.now c.loop-place.place c.index-first-place.result c.loop-place-test.true c.index-first-place.is h)),
)

pub loop-place-preserved : goal.loop-place-preserved
loop-place-preserved c =
    begins_more c.args.dossier.now.records c.args.first.now c.loop-place.place c.index-first-place.result c.loop-place-test.true c.loop-place.invariant
    (sym c.record.ensures ∙ there _ news_decides c.record.result c.index-first-place.result (sym c.ne.ensures ∙ c.if-ne.false))
    c.index-first-place.is

pub returns : goal.returns
returns c =
    let end : c.loop-place.place ≡ length c.args.first.now = omega (arith, c.loop-place-test.false, c.loop-place.auto.place-end) in (
      λ e. ap (λ n. take n c.args.dossier.now.records) (sym end) ∙ c.loop-place.invariant ∙ ap (λ n. take n c.args.first.now) end ∙ take-length c.args.first.now,
      λ h. refl,
    )
