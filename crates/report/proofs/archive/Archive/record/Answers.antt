use Rattle.std.proofs.Common.{◌≡◌, ◌<◌, length, sym, subst, ap, ◌∙◌, arith}
use Rattle.std.specs.Prelude.{Some, slice_get}
use Rattle.std.specs.List.{All, flat_map}
use Rattle.std.proofs.lemmas.List.Elements.{All-get_or}
use Rattle.report.specs.Archive.{IsEntry, Spells, entries_of}
use Rattle.report.specs.Orders.{in_order}
use Rattle.report.proofs.Orders.{all_in_order, no_runs}
use Rattle.report.proofs.WholeRecords.{first_spelled, single_words}
use Rattle.report.proofs.archive.Archive.record.Goals as goal

pub nth-requires : goal.nth-requires
nth-requires c =
    let a = c.self.inside in
    let is = c.new-words.ensures ∙ (λ i. in_order (c.as_slice-then-self-as_slice-2.ensures.value i) a.tail (c.as_slice-then-self-as_slice.ensures.value i)) in
    subst (λ ws. All (IsEntry c.as_slice-then-self-as_slice-3.result.now) ws) (sym is)
    (subst (λ os. All (IsEntry os) (in_order a.runs.items a.tail a.words.items)) (sym c.as_slice-then-self-as_slice-3.ensures.value)
    (all_in_order (IsEntry a.others.items) a.words.items a.tail a.runs.items c.self.invariant.0))

pub record_at-requires : goal.record_at-requires
record_at-requires c =
    let a = c.self.inside in
    let os = a.others.items in
    let ws = a.words.items in
    let w = c.index-word.result.now in
    let below : c.args.place < length ws = omega (arith, c.if-place-self.false, c.if-self-as_slice.false, ap length c.as_slice.ensures.value) in
    let stands : IsEntry os w = subst (IsEntry os) (sym c.index-word.ensures) (All-get_or (IsEntry os) ws c.args.place w below c.self.invariant.0) in
    let first = first_spelled os w stands in
    let r = first.0.0 in (
      r,
      subst (λ q. Spells q w c.unpack.result r) (sym c.as_slice-2.ensures.value) (subst (λ p. Spells os w p r) (sym c.unpack.ensures) first.0.1),
    )

pub returns : goal.returns
returns c =
    let a = c.self.inside in
    let os = a.others.items in
    let ws = a.words.items in
    let w = c.index-word.result.now in
    let below : c.args.place < length ws = omega (arith, c.if-place-self.false, c.if-self-as_slice.false, ap length c.as_slice.ensures.value) in
    let stands : IsEntry os w = subst (IsEntry os) (sym c.index-word.ensures) (All-get_or (IsEntry os) ws c.args.place w below c.self.invariant.0) in
    let first = first_spelled os w stands in
    let r = first.0.0 in
    let spelled = subst (λ q. Spells q w c.unpack.result r) (sym c.as_slice-2.ensures.value) (subst (λ p. Spells os w p r) (sym c.unpack.ensures) first.0.1) in
    let order = no_runs ws a.tail a.runs.items (omega (arith, c.if-self-ne0.false)) c.self.invariant.2 in
    let few : length (flat_map (entries_of os) ws) ≡ length ws =
    omega (arith, c.self.invariant.3, ap (λ l. length (flat_map (entries_of os) l)) order, c.if-self-as_slice.false, ap length c.as_slice.ensures.value) in
    ap Some (c.record_at.ensures r spelled)
    ∙ sym (single_words os ws c.args.place w r _ few below c.index-word.ensures first.0.2)
    ∙ ap (λ l. slice_get (flat_map (entries_of os) l) c.args.place) (sym order)
    ∙ ap (λ l. slice_get l c.args.place) c.self.view_is
