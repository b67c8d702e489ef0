use Rattle.std.proofs.Common.{◌≡◌, ◌<◌, [], ◌∷◌, length, sym, ap, subst, ◌∙◌, rules}
use Rattle.std.proofs.lemmas.Bool.{not-false}
use Rattle.std.proofs.lemmas.List.{get_or_default}
use Rattle.std.specs.Prelude.{slice_index_or}
use Rattle.emu_model.specs.declared.records.Record.TheVariants.{StepsSpent}
use Rattle.report.specs.Archive.{IsEntry, IsEntryOfKind, entries_of_kind}
use Rattle.report.proofs.Equalities.{news_decides}
use Rattle.report.proofs.archive.same_at.Goals as goal

pub returns-clause-same : goal.returns-clause-same
returns-clause-same c =
    let os = c.args.others.now in
    let w = c.in_ok-word.field-0.now in
    let whole = ap (λ p. p.kind) (sym c.unpack.ensures) ∙ c.in-Whole.is in
    let stands : IsEntry os w = search rules in
    let inside : w.high < length os = subst (λ k. IsEntryOfKind k os w) whole stands in
    let found : slice_index_or os w.high (StepsSpent 0) ≡ c.args.entry.now = get_or_default os w.high _ _ inside
    ∙ sym c.index-others-word.is
    ∙ (news_decides c.index-others-word.result c.args.entry.now).0 (not-false _ (sym c.ne.ensures ∙ c.if-ne.false))
    in
    ap (λ k. entries_of_kind k os w) whole ∙ (λ i. found i ∷ [])
