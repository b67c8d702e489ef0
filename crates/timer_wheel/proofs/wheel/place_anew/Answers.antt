use Rattle.std.proofs.Common.{Some, ap, ◌∙◌, arith}
use Rattle.std.proofs.lemmas.Option.{slice_get_within}
use Rattle.timer_wheel.specs.declared.Entry.{Entry}
use Rattle.timer_wheel.specs.Stocks.{Holds}
use Rattle.timer_wheel.proofs.StockFacts.{held_at, rows_slots}
use Rattle.timer_wheel.proofs.PlaceAnew.{placing_none, placing_free, placing_more}
use Rattle.timer_wheel.proofs.wheel.place_anew.Goals as goal

pub loop-key-init : goal.loop-key-init
loop-key-init c = placing_none c.args.stock.now

pub loop-key-preserved-then-list-eq-FREE : goal.loop-key-preserved-then-list-eq-FREE
loop-key-preserved-then-list-eq-FREE c =
    placing_free c.args.stock.now c.loop-key.stock c.loop-key.key c.loop-key.invariant (c.list.ensures ∙ ap Some c.if-list-eq-FREE.true)

pub put-requires-clause-holds : goal.put-requires-clause-holds
put-requires-clause-holds c =
    let f : (e : Entry) × Holds c.loop-key.stock.entries c.loop-key.stock.slots c.loop-key.key e c.list.result =
    held_at c.loop-key.stock c.reveal_invariant.ensures c.loop-key.key c.list.result c.list.ensures c.if-list-eq-FREE.false in
    (f.0, c.list.result, f.1)

pub loop-key-preserved : goal.loop-key-preserved
loop-key-preserved c =
    placing_more c.args.stock.now c.loop-key.stock c.put.new.self c.loop-key.key c.place.result c.list.result c.entry-due.result c.loop-key.invariant
    c.list.ensures c.if-list-eq-FREE.false c.entry-due.ensures c.place.ensures.place c.place.ensures.within c.put.ensures

pub returns-clause-placed : goal.returns-clause-placed
returns-clause-placed c k e p h =
    c.loop-key.invariant.done k e p (omega (arith, slice_get_within c.loop-key.stock.slots k p h.slot, c.loop-key.invariant.long, c.len-key-end.ensures)) h

pub returns-clause-rows : goal.returns-clause-rows
returns-clause-rows c = rows_slots c.args.stock.now c.loop-key.stock c.loop-key.invariant.same
