use Rattle.std.proofs.Common.{◌≡◌, ℕ, ◌<◌, count_by, Some, length, slice_get, set, sym, subst, arith}
use Rattle.timer_wheel.specs.declared.Entry.{Entry}
use Rattle.timer_wheel.specs.Stocks.{StockBook, Holds}
use Rattle.std.proofs.lemmas.Option.{slice_get_within}
use Rattle.timer_wheel.proofs.StockFacts.{reset_stock, reset_rows, reset_holds, free_stays, is_free, read_entry, some_same}
use Rattle.timer_wheel.proofs.stock.Stock.reset.Goals as goal

pub invariant_of-self : goal.invariant_of-self
invariant_of-self c =
    let h : (e : Entry) × (p : ℕ) × Holds c.self.inside.entries.items c.self.inside.slots c.args.key e p = (subst (λ (b : StockBook). (e : Entry) × (p : ℕ) × Holds b.entries b.slots c.args.key e p) (sym c.self.view_is) c.requires.holds) in
    let l : c.args.key < length c.self.inside.entries.items = slice_get_within c.self.inside.entries.items c.args.key h.0 h.2.entry in
    let r : slice_get c.self.inside.entries.items c.args.key ≡ Some c.index_mut.result.now = read_entry c.self.inside.entries.items c.args.key c.index_mut.result.now l c.index_mut.ensures.value in
    let g : Holds c.self.inside.entries.items c.self.inside.slots c.args.key c.index_mut.result.now h.1 = record { entry = r; slot = h.2.slot; full = h.2.full } in
    rw c.put.ensures (reset_stock (record { entries = c.self.inside.entries.items; slots = c.self.inside.slots; owners = c.self.inside.owners; index = c.self.inside.index }) c.self.invariant c.args.key c.args.due c.args.list c.index_mut.result.now h.1 g (λ e. omega (arith, c.requires.list)))

pub returns-clause-holds : goal.returns-clause-holds
returns-clause-holds c =
    let h : (e : Entry) × (p : ℕ) × Holds c.self.inside.entries.items c.self.inside.slots c.args.key e p = (subst (λ (b : StockBook). (e : Entry) × (p : ℕ) × Holds b.entries b.slots c.args.key e p) (sym c.self.view_is) c.requires.holds) in
    let l : c.args.key < length c.self.inside.entries.items = slice_get_within c.self.inside.entries.items c.args.key h.0 h.2.entry in
    let r : slice_get c.self.inside.entries.items c.args.key ≡ Some c.index_mut.result.now = read_entry c.self.inside.entries.items c.args.key c.index_mut.result.now l c.index_mut.ensures.value in
    let g : Holds c.self.inside.entries.items c.self.inside.slots c.args.key c.index_mut.result.now h.1 = record { entry = r; slot = h.2.slot; full = h.2.full } in
    rw (← c.self.view_is, c.put.ensures) (reset_holds (record { entries = c.self.inside.entries.items; slots = c.self.inside.slots; owners = c.self.inside.owners; index = c.self.inside.index }) c.args.key c.args.due c.args.list c.index_mut.result.now h.1 g)

pub returns-clause-rows : goal.returns-clause-rows
returns-clause-rows c x f o s =
    let h : (e : Entry) × (p : ℕ) × Holds c.self.inside.entries.items c.self.inside.slots c.args.key e p = (subst (λ (b : StockBook). (e : Entry) × (p : ℕ) × Holds b.entries b.slots c.args.key e p) (sym c.self.view_is) c.requires.holds) in
    let l : c.args.key < length c.self.inside.entries.items = slice_get_within c.self.inside.entries.items c.args.key h.0 h.2.entry in
    let r : slice_get c.self.inside.entries.items c.args.key ≡ Some c.index_mut.result.now = read_entry c.self.inside.entries.items c.args.key c.index_mut.result.now l c.index_mut.ensures.value in
    let g : Holds c.self.inside.entries.items c.self.inside.slots c.args.key c.index_mut.result.now h.1 = record { entry = r; slot = h.2.slot; full = h.2.full } in
    let is : c.index_mut.result.now ≡ x = some_same c.index_mut.result.now x (slice_get c.self.inside.entries.items c.args.key) r (subst (λ (b : StockBook). slice_get b.entries c.args.key ≡ Some x) (sym c.self.view_is) f) in
    rw (← is, ← c.self.view_is, c.put.ensures) (reset_rows (record { entries = c.self.inside.entries.items; slots = c.self.inside.slots; owners = c.self.inside.owners; index = c.self.inside.index }) c.self.invariant c.args.key c.args.due c.args.list c.index_mut.result.now h.1 g o s)

pub returns-clause-room : goal.returns-clause-room
returns-clause-room c =
    let h : (e : Entry) × (p : ℕ) × Holds c.self.inside.entries.items c.self.inside.slots c.args.key e p = (subst (λ (b : StockBook). (e : Entry) × (p : ℕ) × Holds b.entries b.slots c.args.key e p) (sym c.self.view_is) c.requires.holds) in
    let l : c.args.key < length c.self.inside.entries.items = slice_get_within c.self.inside.entries.items c.args.key h.0 h.2.entry in
    let r : slice_get c.self.inside.entries.items c.args.key ≡ Some c.index_mut.result.now = read_entry c.self.inside.entries.items c.args.key c.index_mut.result.now l c.index_mut.ensures.value in
    let g : Holds c.self.inside.entries.items c.self.inside.slots c.args.key c.index_mut.result.now h.1 = record { entry = r; slot = h.2.slot; full = h.2.full } in
    let f : count_by is_free (set c.self.inside.slots c.args.key c.args.list) ≡ count_by is_free c.self.inside.slots = free_stays c.self.inside.slots c.args.key c.args.list h.1 h.2.slot h.2.full (λ e. omega (arith, c.requires.list)) in
    rw (← c.self.view_is, c.put.ensures) (omega (arith, f))
