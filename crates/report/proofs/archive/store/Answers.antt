use Rattle.std.proofs.Common.{◌∷◌, ◌++◌, [], List, length, sym, subst, ap, ◌∙◌, arith}
use Rattle.std.specs.List.{All, flat_map}
use Rattle.emu_model.specs.declared.records.Record.{Record}
use Rattle.report.specs.declared.packed.Packed.{Packed}
use Rattle.report.specs.Archive.{entries_of, IsEntry, Stay}
use Rattle.report.proofs.WholeRecords.{one_more, one_more_entry, stay_more, whole_entries}
use Rattle.report.proofs.archive.store.Goals as goal

pub returns-clause-ok : goal.returns-clause-ok
returns-clause-ok c =
    let os : List Record = c.args.others.now.items in
    let ws : List Packed = c.args.words.now.items in
    let r = c.args.entry.now in
    let grown = c.push_reserved-2.ensures.items ∙ ap (λ (l : List Record). l ++ r ∷ []) c.reserve.ensures.items in
    let whole = whole_entries os r c.place_mark.result c.place_mark.ensures.kind
    (omega (arith, c.place_mark.ensures.place, ap length c.as_slice-place.ensures.value, ap length c.reserve.ensures.items)) in
    (λ i. flat_map (entries_of (grown i)) (c.push_reserved.ensures.items i))
    ∙ one_more os (os ++ r ∷ []) ws c.place_mark.result (r ∷ []) (stay_more os r) c.requires.sound whole.0

pub returns-clause-stay : goal.returns-clause-stay
returns-clause-stay c =
    let os : List Record = c.args.others.now.items in
    let r = c.args.entry.now in
    let grown = c.push_reserved-2.ensures.items ∙ ap (λ (l : List Record). l ++ r ∷ []) c.reserve.ensures.items in
    subst (Stay os) (sym grown) (stay_more os r)

pub returns-clause-sound : goal.returns-clause-sound
returns-clause-sound c =
    let os : List Record = c.args.others.now.items in
    let ws : List Packed = c.args.words.now.items in
    let r = c.args.entry.now in
    let grown = c.push_reserved-2.ensures.items ∙ ap (λ (l : List Record). l ++ r ∷ []) c.reserve.ensures.items in
    let whole = whole_entries os r c.place_mark.result c.place_mark.ensures.kind
    (omega (arith, c.place_mark.ensures.place, ap length c.as_slice-place.ensures.value, ap length c.reserve.ensures.items)) in
    subst (λ (l : List Packed). All (IsEntry c.push_reserved-2.new.self.items) l) (sym c.push_reserved.ensures.items)
    (subst (λ (l : List Record). All (IsEntry l) (ws ++ c.place_mark.result ∷ [])) (sym grown)
    (one_more_entry os (os ++ r ∷ []) ws c.place_mark.result (stay_more os r) c.requires.sound whole.1))
