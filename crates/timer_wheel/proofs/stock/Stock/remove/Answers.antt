use Rattle.std.proofs.Common.{◌≡◌, ℕ, ◌<◌, ◌≤◌, count_by, Some, length, slice_get, set, sym, subst, arith}
use Rattle.timer_wheel.specs.declared.Entry.{Entry}
use Rattle.timer_wheel.specs.Stocks.{StockBook, Holds}
use Rattle.std.proofs.lemmas.Option.{slice_get_within}
use Rattle.timer_wheel.proofs.StockFacts.{gone_stock, gone_rows, free_more, is_free, read_entry}
use Rattle.timer_wheel.proofs.stock.Stock.remove.Goals as goal

pub invariant_of-self : goal.invariant_of-self
invariant_of-self c =
    let h : (e : Entry) × (p : ℕ) × Holds c.self.inside.entries.items c.self.inside.slots c.args.key e p = (subst (λ (b : StockBook). (e : Entry) × (p : ℕ) × Holds b.entries b.slots c.args.key e p) (sym c.self.view_is) c.requires) in
    let l : c.args.key < length c.self.inside.entries.items = slice_get_within c.self.inside.entries.items c.args.key h.0 h.2.entry in
    let r : slice_get c.self.inside.entries.items c.args.key ≡ Some c.index-entry.result.now = read_entry c.self.inside.entries.items c.args.key c.index-entry.result.now l c.index-entry.ensures in
    let g : Holds c.self.inside.entries.items c.self.inside.slots c.args.key c.index-entry.result.now h.1 = record { entry = r; slot = h.2.slot; full = h.2.full } in
    rw (c.put-2.ensures, c.put.ensures) (gone_stock (record { entries = c.self.inside.entries.items; slots = c.self.inside.slots; owners = c.self.inside.owners; index = c.self.inside.index }) c.self.invariant c.args.key c.index-entry.result.now h.1 g c.remove.new.self c.remove.ensures.keys)

pub returns-clause-entry : goal.returns-clause-entry
returns-clause-entry c =
    let h : (e : Entry) × (p : ℕ) × Holds c.self.inside.entries.items c.self.inside.slots c.args.key e p = (subst (λ (b : StockBook). (e : Entry) × (p : ℕ) × Holds b.entries b.slots c.args.key e p) (sym c.self.view_is) c.requires) in
    let l : c.args.key < length c.self.inside.entries.items = slice_get_within c.self.inside.entries.items c.args.key h.0 h.2.entry in
    let r : slice_get c.self.inside.entries.items c.args.key ≡ Some c.index-entry.result.now = read_entry c.self.inside.entries.items c.args.key c.index-entry.result.now l c.index-entry.ensures in
    let g : Holds c.self.inside.entries.items c.self.inside.slots c.args.key c.index-entry.result.now h.1 = record { entry = r; slot = h.2.slot; full = h.2.full } in
    rw (← c.self.view_is) r

pub returns-clause-rows : goal.returns-clause-rows
returns-clause-rows c o s =
    let h : (e : Entry) × (p : ℕ) × Holds c.self.inside.entries.items c.self.inside.slots c.args.key e p = (subst (λ (b : StockBook). (e : Entry) × (p : ℕ) × Holds b.entries b.slots c.args.key e p) (sym c.self.view_is) c.requires) in
    let l : c.args.key < length c.self.inside.entries.items = slice_get_within c.self.inside.entries.items c.args.key h.0 h.2.entry in
    let r : slice_get c.self.inside.entries.items c.args.key ≡ Some c.index-entry.result.now = read_entry c.self.inside.entries.items c.args.key c.index-entry.result.now l c.index-entry.ensures in
    let g : Holds c.self.inside.entries.items c.self.inside.slots c.args.key c.index-entry.result.now h.1 = record { entry = r; slot = h.2.slot; full = h.2.full } in
    rw (← c.self.view_is, c.put-2.ensures, c.put.ensures) (gone_rows (record { entries = c.self.inside.entries.items; slots = c.self.inside.slots; owners = c.self.inside.owners; index = c.self.inside.index }) c.self.invariant c.args.key c.index-entry.result.now h.1 g c.remove.new.self c.remove.ensures.keys o s)

pub returns-clause-room : goal.returns-clause-room
returns-clause-room c =
    let h : (e : Entry) × (p : ℕ) × Holds c.self.inside.entries.items c.self.inside.slots c.args.key e p = (subst (λ (b : StockBook). (e : Entry) × (p : ℕ) × Holds b.entries b.slots c.args.key e p) (sym c.self.view_is) c.requires) in
    let l : c.args.key < length c.self.inside.entries.items = slice_get_within c.self.inside.entries.items c.args.key h.0 h.2.entry in
    let r : slice_get c.self.inside.entries.items c.args.key ≡ Some c.index-entry.result.now = read_entry c.self.inside.entries.items c.args.key c.index-entry.result.now l c.index-entry.ensures in
    let g : Holds c.self.inside.entries.items c.self.inside.slots c.args.key c.index-entry.result.now h.1 = record { entry = r; slot = h.2.slot; full = h.2.full } in
    let f : count_by is_free c.self.inside.slots ≤ count_by is_free (set c.self.inside.slots c.args.key 2050) = free_more c.self.inside.slots c.args.key h.1 h.2.slot h.2.full in
    rw (← c.self.view_is, c.put-2.ensures) (omega (arith, f, c.remove.ensures.room))
