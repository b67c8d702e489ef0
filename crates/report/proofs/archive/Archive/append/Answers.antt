use Rattle.std.proofs.Common.{◌≡◌, List, ◌++◌, length, take, ap, sym, subst, ◌∙◌, arith}
use Rattle.std.specs.List.{All, flat_map}
use Rattle.std.proofs.lemmas.List.{length-append}
use Rattle.std.proofs.lemmas.List.Elements.{All-take}
use Rattle.report.specs.declared.archive.Run.{Run}
use Rattle.report.specs.declared.packed.Packed.{Packed}
use Rattle.report.specs.Archive.{entries_of, IsEntry}
use Rattle.report.specs.Orders.{IsRun, in_order}
use Rattle.report.proofs.WholeRecords.{order_grows, order_stays, stay_entries}
use Rattle.report.proofs.archive.Archive.append.Goals as goal

pub invariant_of-self-in_default-note_all : goal.invariant_of-self-in_default-note_all
invariant_of-self-in_default-note_all c =
    let a = c.self.inside in
    let inv = c.self.invariant in
    let e = c.in_default-note_all.ensures in
    let os = a.others.items in
    let qs = c.note_all.new.others.items in
    let ws = a.words.items in
    let back : c.truncate.new.self.items ≡ ws = c.truncate.ensures.items ∙ ap (λ n. take n c.note_all.new.words.items) (ap length c.as_slice-before.ensures.value) ∙ e.kept ∙ c.reserve.ensures.items in
    let order = ap (flat_map (entries_of qs)) (λ i. in_order (c.reserve-2.ensures.items i) a.tail (back i)) ∙ order_stays os qs ws ws a.runs.items a.tail e.stay inv.0 in (
      subst (All (IsEntry qs)) (sym back) (stay_entries os qs ws e.stay inv.0),
      omega (arith, inv.1, ap length back),
      subst (All (IsRun a.tail)) (sym c.reserve-2.ensures.items) inv.2,
      inv.3 ∙ ap length (sym order),
    )

pub returns-in_default-note_all-clause-err : goal.returns-in_default-note_all-clause-err
returns-in_default-note_all-clause-err c =
    let a = c.self.inside in
    let e = c.in_default-note_all.ensures in
    let os = a.others.items in
    let qs = c.note_all.new.others.items in
    let ws = a.words.items in
    let back : c.truncate.new.self.items ≡ ws = c.truncate.ensures.items ∙ ap (λ n. take n c.note_all.new.words.items) (ap length c.as_slice-before.ensures.value) ∙ e.kept ∙ c.reserve.ensures.items in
    ap (flat_map (entries_of qs)) (λ i. in_order (c.reserve-2.ensures.items i) a.tail (back i)) ∙ order_stays os qs ws ws a.runs.items a.tail e.stay c.self.invariant.0 ∙ c.self.view_is

pub invariant_of-self-2 : goal.invariant_of-self-2
invariant_of-self-2 c =
    let a = c.self.inside in
    let inv = c.self.invariant in
    let e = c.in-Ok.ensures in
    let f = c.fold-self-inside.ensures in
    let os = a.others.items in
    let qs = c.note_all.new.others.items in
    let ws = a.words.items in
    let vs = c.note_all.new.words.items in
    let rs = c.args.records.now in
    let kept = ap (λ (l : List Packed). take (length l) vs) (sym c.reserve.ensures.items) ∙ e.kept ∙ c.reserve.ensures.items in
    let grown = e.ok ∙ ap (λ (l : List Packed). flat_map (entries_of os) l ++ rs) c.reserve.ensures.items in
    let order = ap (flat_map (entries_of qs)) (f.order ∙ ap (λ (l : List Run). in_order l a.tail vs) c.reserve-2.ensures.items)
    ∙ order_grows os qs ws vs a.runs.items a.tail e.stay inv.0 rs inv.1 inv.2 kept grown in (
      subst (All (IsEntry qs)) (sym f.words) (All-take (IsEntry qs) (length c.fold-self-inside.new.words.items) vs e.sound),
      f.few,
      f.runs,
      omega (arith, c.in-Some.ensures, inv.3, ap length order, length-append (flat_map (entries_of os) (in_order a.runs.items a.tail ws)) rs),
    )

pub returns-clause-ok : goal.returns-clause-ok
returns-clause-ok c =
    let a = c.self.inside in
    let inv = c.self.invariant in
    let e = c.in-Ok.ensures in
    let os = a.others.items in
    let qs = c.note_all.new.others.items in
    let ws = a.words.items in
    let vs = c.note_all.new.words.items in
    let rs = c.args.records.now in
    let kept = ap (λ (l : List Packed). take (length l) vs) (sym c.reserve.ensures.items) ∙ e.kept ∙ c.reserve.ensures.items in
    let grown = e.ok ∙ ap (λ (l : List Packed). flat_map (entries_of os) l ++ rs) c.reserve.ensures.items in
    ap (flat_map (entries_of qs)) (c.fold-self-inside.ensures.order ∙ ap (λ (l : List Run). in_order l a.tail vs) c.reserve-2.ensures.items)
    ∙ order_grows os qs ws vs a.runs.items a.tail e.stay inv.0 rs inv.1 inv.2 kept grown
    ∙ ap (λ l. l ++ rs) c.self.view_is
