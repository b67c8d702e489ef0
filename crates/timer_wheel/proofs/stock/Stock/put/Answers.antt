use Rattle.std.proofs.Common.{ℕ, sym, subst, arith}
use Rattle.timer_wheel.specs.declared.Entry.{Entry}
use Rattle.timer_wheel.specs.Stocks.{StockBook, Holds}
use Rattle.timer_wheel.proofs.StockFacts.{put_stock}
use Rattle.timer_wheel.proofs.stock.Stock.put.Goals as goal

pub invariant_of-self : goal.invariant_of-self
invariant_of-self c =
    let h : (e : Entry) × (p : ℕ) × Holds c.self.inside.entries.items c.self.inside.slots c.args.key e p =
    (subst (λ (b : StockBook). (e : Entry) × (p : ℕ) × Holds b.entries b.slots c.args.key e p) (sym c.self.view_is) c.requires.holds) in
    rw c.put.ensures (put_stock (record { entries = c.self.inside.entries.items; slots = c.self.inside.slots; owners = c.self.inside.owners; index = c.self.inside.index }) c.self.invariant c.args.key c.args.list h.0 h.1 h.2 (λ e. omega (arith, c.requires.list)))
