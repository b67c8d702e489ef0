use Rattle.std.proofs.Common.{◌≡◌, ◌<◌, ◌≤◌, Some, length, slice_get, ap, subst, ◌∙◌, arith, below_more}
use Rattle.std.proofs.lemmas.List.{length-set}
use Rattle.timer_wheel.specs.declared.Entry.{Entry}
use Rattle.timer_wheel.specs.Stocks.{StockBook, Holds, IsStock, room_of}
use Rattle.std.proofs.lemmas.Option.{slice_get_within}
use Rattle.timer_wheel.proofs.StockFacts.{held_at, some_same}
use Rattle.timer_wheel.proofs.StockThin.{no_due, done_more}
use Rattle.timer_wheel.proofs.stock.Stock.clear.Goals as goal

pub remove-requires : goal.remove-requires
remove-requires c =
    let at : slice_get c.loop-key.self.slots c.loop-key.key ≡ Some c.list.result =
    subst (λ (b : StockBook). slice_get b.slots c.loop-key.key ≡ Some c.list.result) c.self-in-loop-key.view_is c.list.ensures in
    let f : (e : Entry) × Holds c.loop-key.self.entries c.loop-key.self.slots c.loop-key.key e c.list.result =
    held_at c.loop-key.self (subst IsStock c.self-in-loop-key.view_is c.self-in-loop-key.invariant) c.loop-key.key c.list.result at c.if-list-eq-FREE.false in
    (f.0, c.list.result, f.1)

pub loop-key-preserved-then-list-eq-FREE : goal.loop-key-preserved-then-list-eq-FREE
loop-key-preserved-then-list-eq-FREE c =
    let at : slice_get c.loop-key.self.slots c.loop-key.key ≡ Some c.list.result =
    subst (λ (b : StockBook). slice_get b.slots c.loop-key.key ≡ Some c.list.result) c.self-in-loop-key.view_is c.list.ensures in
    record {
      long = c.loop-key.invariant.long;
      done = below_more (λ k. slice_get c.loop-key.self.slots k ≡ Some 2050) _ c.loop-key.invariant.done (at ∙ ap Some c.if-list-eq-FREE.true);
      room = c.loop-key.invariant.room;
    }

pub loop-key-preserved : goal.loop-key-preserved
loop-key-preserved c =
    let at : slice_get c.loop-key.self.slots c.loop-key.key ≡ Some c.list.result =
    subst (λ (b : StockBook). slice_get b.slots c.loop-key.key ≡ Some c.list.result) c.self-in-loop-key.view_is c.list.ensures in
    let l : c.loop-key.key < length c.loop-key.self.slots = slice_get_within c.loop-key.self.slots c.loop-key.key c.list.result at in
    let r : room_of c.args.self.now ≤ room_of c.loop-key.self = c.loop-key.invariant.room in
    let s : room_of c.loop-key.self ≤ room_of c.remove.new.self = c.remove.ensures.room in
    record {
      long = ap length c.remove.ensures.slots ∙ length-set c.loop-key.self.slots c.loop-key.key 2050 ∙ c.loop-key.invariant.long;
      done = done_more c.loop-key.self.slots c.remove.new.self.slots c.loop-key.key c.remove.ensures.slots l c.loop-key.invariant.done;
      room = omega (arith, r, s);
    }

pub returns-clause-holds : goal.returns-clause-holds
returns-clause-holds c k e p h =
    let l : k < length c.loop-key.self.slots = slice_get_within c.loop-key.self.slots k p h.slot in
    let n : length c.self.inside.slots ≡ length c.args.self.now.slots = ap (λ (b : StockBook). length b.slots) c.self.view_is in
    h.full (some_same p 2050 (slice_get c.loop-key.self.slots k) h.slot (c.loop-key.invariant.done k (omega (arith, c.loop-key.invariant.long, c.len-key-end.ensures))))

pub returns-clause-rows : goal.returns-clause-rows
returns-clause-rows c o = no_due c.loop-key.self c.reveal_invariant.ensures o (λ k e p h is. returns-clause-holds c k e p h)
