use Rattle.std.proofs.Common.{◌<◌, min, count_by, sym, subst, arith}
use Rattle.timer_wheel.specs.Stocks.{StockBook, room_of}
use Rattle.timer_wheel.proofs.StockFacts.{wider_stock, wider_back, wider_rows, same_grown, some_free, none_free, is_free}
use Rattle.timer_wheel.proofs.stock.Stock.make_room.Goals as goal

pub returns-in_err-reserve-clause-rows : goal.returns-in_err-reserve-clause-rows
returns-in_err-reserve-clause-rows c = rw (← c.self.view_is) (wider_rows (record { entries = c.self.inside.entries.items; slots = c.self.inside.slots; owners = c.self.inside.owners; index = c.self.inside.index }) c.self.invariant c.self.inside.entries.items c.self.inside.slots c.self.inside.owners c.reserve.new.self (same_grown (record { entries = c.self.inside.entries.items; slots = c.self.inside.slots; owners = c.self.inside.owners; index = c.self.inside.index }) c.self.invariant) c.reserve.ensures.keys)

pub returns-in-Some-clause-ok : goal.returns-in-Some-clause-ok
returns-in-Some-clause-ok c = omega (arith, some_free c.self.inside.slots c.in-Some.field-0 c.in-Some.ensures.some, c.in_ok-reserve.ensures.ok)

pub returns-in-Some-clause-rows : goal.returns-in-Some-clause-rows
returns-in-Some-clause-rows c = rw (← c.self.view_is) (wider_rows (record { entries = c.self.inside.entries.items; slots = c.self.inside.slots; owners = c.self.inside.owners; index = c.self.inside.index }) c.self.invariant c.self.inside.entries.items c.self.inside.slots c.self.inside.owners c.reserve.new.self (same_grown (record { entries = c.self.inside.entries.items; slots = c.self.inside.slots; owners = c.self.inside.owners; index = c.self.inside.index }) c.self.invariant) c.reserve.ensures.keys)

pub invariant_of-self-in_err-grow : goal.invariant_of-self-in_err-grow
invariant_of-self-in_err-grow c = wider_stock (record { entries = c.self.inside.entries.items; slots = c.self.inside.slots; owners = c.self.inside.owners; index = c.self.inside.index }) c.self.invariant c.grow.new.entries.items c.grow.new.slots c.grow.new.owners c.reserve.new.self c.grow.ensures.grown c.reserve.ensures.keys

pub returns-in_err-grow-clause-succeeds : goal.returns-in_err-grow-clause-succeeds
returns-in_err-grow-clause-succeeds c h =
    let r : 0 < min (count_by is_free c.self.inside.slots) c.self.inside.index.room = subst (λ (b : StockBook). 0 < room_of b) (sym c.self.view_is) h in
    absurd (omega (arith, none_free c.self.inside.slots c.in_default.ensures.none))

pub returns-in_err-grow-clause-holds : goal.returns-in_err-grow-clause-holds
returns-in_err-grow-clause-holds c = rw (← c.self.view_is) (wider_back (record { entries = c.self.inside.entries.items; slots = c.self.inside.slots; owners = c.self.inside.owners; index = c.self.inside.index }) c.self.invariant c.grow.new.entries.items c.grow.new.slots c.grow.new.owners c.reserve.new.self c.grow.ensures.grown c.reserve.ensures.keys)

pub returns-in_err-grow-clause-rows : goal.returns-in_err-grow-clause-rows
returns-in_err-grow-clause-rows c = rw (← c.self.view_is) (wider_rows (record { entries = c.self.inside.entries.items; slots = c.self.inside.slots; owners = c.self.inside.owners; index = c.self.inside.index }) c.self.invariant c.grow.new.entries.items c.grow.new.slots c.grow.new.owners c.reserve.new.self c.grow.ensures.grown c.reserve.ensures.keys)

pub invariant_of-self-2 : goal.invariant_of-self-2
invariant_of-self-2 c = wider_stock (record { entries = c.self.inside.entries.items; slots = c.self.inside.slots; owners = c.self.inside.owners; index = c.self.inside.index }) c.self.invariant c.grow.new.entries.items c.grow.new.slots c.grow.new.owners c.reserve.new.self c.grow.ensures.grown c.reserve.ensures.keys

pub returns-clause-holds : goal.returns-clause-holds
returns-clause-holds c = rw (← c.self.view_is) (wider_back (record { entries = c.self.inside.entries.items; slots = c.self.inside.slots; owners = c.self.inside.owners; index = c.self.inside.index }) c.self.invariant c.grow.new.entries.items c.grow.new.slots c.grow.new.owners c.reserve.new.self c.grow.ensures.grown c.reserve.ensures.keys)

pub returns-clause-rows : goal.returns-clause-rows
returns-clause-rows c = rw (← c.self.view_is) (wider_rows (record { entries = c.self.inside.entries.items; slots = c.self.inside.slots; owners = c.self.inside.owners; index = c.self.inside.index }) c.self.invariant c.grow.new.entries.items c.grow.new.slots c.grow.new.owners c.reserve.new.self c.grow.ensures.grown c.reserve.ensures.keys)
