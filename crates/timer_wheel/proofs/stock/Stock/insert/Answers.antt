use Rattle.std.proofs.Common.{◌≡◌, ◌<◌, ◌≤◌, ◌+◌, min, count_by, None, set, sym, subst, arith}
use Rattle.timer_wheel.specs.Stocks.{StockBook, due_of, room_of}
use Rattle.timer_wheel.specs.Index.{key_in}
use Rattle.timer_wheel.proofs.StockFacts.{more_stock, more_rows, more_holds, free_less, none_free, is_free, no_key_of}
use Rattle.timer_wheel.proofs.stock.Stock.insert.Goals as goal

pub unreachable_unchecked-unreachable-requires : goal.unreachable_unchecked-unreachable-requires
unreachable_unchecked-unreachable-requires c =
    let r : 0 < min (count_by is_free c.self.inside.slots) c.self.inside.index.room = subst (λ (b : StockBook). 0 < room_of b) (sym c.self.view_is) c.requires.room in
    omega (arith, none_free c.self.inside.slots c.in_default.ensures.none)

pub insert-requires : goal.insert-requires
insert-requires c =
    let r : 0 < min (count_by is_free c.self.inside.slots) c.self.inside.index.room = subst (λ (b : StockBook). 0 < room_of b) (sym c.self.view_is) c.requires.room in
    omega arith

pub invariant_of-self : goal.invariant_of-self
invariant_of-self c =
    let a : key_in c.self.inside.index.keys c.args.entry.owner c.args.entry.source ≡ None =
    no_key_of (record { entries = c.self.inside.entries.items; slots = c.self.inside.slots; owners = c.self.inside.owners; index = c.self.inside.index }) c.self.invariant c.args.entry.owner c.args.entry.source
    (subst (λ (b : StockBook). due_of b c.args.entry.owner c.args.entry.source ≡ None) (sym c.self.view_is) c.requires.absent) in
    rw (c.put-2.ensures, c.put.ensures) (more_stock (record { entries = c.self.inside.entries.items; slots = c.self.inside.slots; owners = c.self.inside.owners; index = c.self.inside.index }) c.self.invariant c.in-Some.key c.args.list c.args.entry c.in-Some.ensures.some (λ e. omega (arith, c.requires.list)) a c.insert.new.self c.insert.ensures.keys)

pub returns-clause-holds : goal.returns-clause-holds
returns-clause-holds c =
    let a : key_in c.self.inside.index.keys c.args.entry.owner c.args.entry.source ≡ None =
    no_key_of (record { entries = c.self.inside.entries.items; slots = c.self.inside.slots; owners = c.self.inside.owners; index = c.self.inside.index }) c.self.invariant c.args.entry.owner c.args.entry.source
    (subst (λ (b : StockBook). due_of b c.args.entry.owner c.args.entry.source ≡ None) (sym c.self.view_is) c.requires.absent) in
    rw (← c.self.view_is, c.put-2.ensures) (more_holds (record { entries = c.self.inside.entries.items; slots = c.self.inside.slots; owners = c.self.inside.owners; index = c.self.inside.index }) c.self.invariant c.in-Some.key c.args.list c.args.entry c.in-Some.ensures.some (λ e. omega (arith, c.requires.list)) a c.insert.new.self c.insert.ensures.keys)

pub returns-clause-rows : goal.returns-clause-rows
returns-clause-rows c o s =
    let a : key_in c.self.inside.index.keys c.args.entry.owner c.args.entry.source ≡ None =
    no_key_of (record { entries = c.self.inside.entries.items; slots = c.self.inside.slots; owners = c.self.inside.owners; index = c.self.inside.index }) c.self.invariant c.args.entry.owner c.args.entry.source
    (subst (λ (b : StockBook). due_of b c.args.entry.owner c.args.entry.source ≡ None) (sym c.self.view_is) c.requires.absent) in
    rw (← c.self.view_is, c.put-2.ensures, c.put.ensures) (more_rows (record { entries = c.self.inside.entries.items; slots = c.self.inside.slots; owners = c.self.inside.owners; index = c.self.inside.index }) c.self.invariant c.in-Some.key c.args.list c.args.entry c.in-Some.ensures.some (λ e. omega (arith, c.requires.list)) a c.insert.new.self c.insert.ensures.keys o s)

pub returns-clause-room : goal.returns-clause-room
returns-clause-room c =
    let f : count_by is_free c.self.inside.slots ≤ count_by is_free (set c.self.inside.slots c.in-Some.key c.args.list) + 1 = free_less c.self.inside.slots c.in-Some.key c.args.list c.in-Some.ensures.some in
    rw (← c.self.view_is, c.put-2.ensures) (omega (arith, f, c.insert.ensures.room))
