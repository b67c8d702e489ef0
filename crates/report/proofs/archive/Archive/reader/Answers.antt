use Rattle.std.proofs.Common.{sym, subst, ◌∙◌}
use Rattle.std.specs.List.{All}
use Rattle.report.specs.Archive.{IsEntry}
use Rattle.report.specs.Orders.{in_order}
use Rattle.report.proofs.Orders.{all_in_order}
use Rattle.report.proofs.archive.Archive.reader.Goals as goal

pub new-requires : goal.new-requires
new-requires c =
    let a = c.self.inside in
    let is = c.new-words.ensures ∙ (λ i. in_order (c.as_slice-2.ensures.value i) a.tail (c.as_slice.ensures.value i)) in
    subst (λ ws. All (IsEntry c.as_slice-3.result.now) ws) (sym is)
    (subst (λ os. All (IsEntry os) (in_order a.runs.items a.tail a.words.items)) (sym c.as_slice-3.ensures.value)
    (all_in_order (IsEntry a.others.items) a.words.items a.tail a.runs.items c.self.invariant.0))
